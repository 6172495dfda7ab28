use Rattle.std.proofs.Common.{◌≡◌, ℕ, zero, suc, ◌-◌, ◌*◌, ◌/◌, ◌%◌, ◌^◌, ◌<◌, length, get_or, take, w64, refl, sym, ◌∙◌, arith, inl, inr}
use Rattle.std.specs.Int.{to_be_bytes}
use Rattle.std.proofs.lemmas.Bool.{cases_eq}
use Rattle.std.proofs.lemmas.List.{get_or-set_same, get_or-set_other, get_or-take, length-take-le, ext_get_or}
use Rattle.bit_vectors.proofs.word_bytes.store_short.Goals as goal

byte_is : (word i : ℕ) → i < 8 → word / 2 ^ (56 - 8 * i) % 256 ≡ get_or (to_be_bytes w64 word) i 0
byte_is word zero lt = refl
byte_is word (suc zero) lt = refl
byte_is word (suc (suc zero)) lt = refl
byte_is word (suc (suc (suc zero))) lt = refl
byte_is word (suc (suc (suc (suc zero)))) lt = refl
byte_is word (suc (suc (suc (suc (suc zero))))) lt = refl
byte_is word (suc (suc (suc (suc (suc (suc zero)))))) lt = refl
byte_is word (suc (suc (suc (suc (suc (suc (suc zero))))))) lt = omega arith
byte_is word (suc (suc (suc (suc (suc (suc (suc (suc i)))))))) lt = absurd (omega arith)

pub loop-index-preserved : goal.loop-index-preserved
loop-index-preserved c i lt =
    elim (cases_eq i c.loop-index.index) [
      | inl here ↦ rw (here, get_or-set_same c.loop-index.bytes c.loop-index.index (c.args.word / 2 ^ (56 - 8 * c.loop-index.index) % 256) 0 (omega (arith, c.loop-index.auto.bytes, c.loop-index-test.true))) (byte_is c.args.word c.loop-index.index (omega (arith, c.requires, c.loop-index-test.true)))
      | inr other ↦ get_or-set_other c.loop-index.bytes c.loop-index.index i (c.args.word / 2 ^ (56 - 8 * c.loop-index.index) % 256) 0 other ∙ c.loop-index.invariant i (omega arith)
    ]

pub returns : goal.returns
returns c =
    let word = to_be_bytes w64 c.args.word in
    let len : length (take (length c.args.bytes.now) (to_be_bytes w64 c.args.word)) ≡ length c.args.bytes.now = length-take-le (length c.args.bytes.now) (to_be_bytes w64 c.args.word) c.requires in
    ext_get_or 0 c.loop-index.bytes (take (length c.args.bytes.now) (to_be_bytes w64 c.args.word)) (c.loop-index.auto.bytes ∙ sym len)
    (λ k lt. c.loop-index.invariant k (omega (arith, lt, c.loop-index.auto.bytes)) ∙ sym (get_or-take (length c.args.bytes.now) (to_be_bytes w64 c.args.word) k 0 (omega (arith, lt, c.loop-index.auto.bytes))))
