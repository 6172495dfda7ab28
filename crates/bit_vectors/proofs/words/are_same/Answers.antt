use Rattle.std.proofs.Common.{◌≡◌, ℕ, ◌<◌, ◌^◌, get_or, refl, ap, ◌∙◌, arith, eq-eqb, inl, inr}
use Rattle.std.specs.Int.Bits.{bit_xor, xor_self}
use Rattle.std.specs.Int.{bit_at}
use Rattle.std.proofs.lemmas.Bool.{cases_lt, eqb-true}
use Rattle.std.proofs.lemmas.List.{ext_get_or}
use Rattle.std.proofs.lemmas.Nat.{le_or_l, le_or_r}
use Rattle.std.proofs.lemmas.Nat.Bits.{same_from_bits_below, bit_at_xor, bit_at-lt, bit_at-zero}
use Rattle.bit_vectors.proofs.words.are_same.Goals as goal

-- words that differ in no bit
same_word : (a b : ℕ) → a < 2 ^ 64 → b < 2 ^ 64 → bit_xor a b ≡ 0 → a ≡ b
same_word a b a_lt b_lt none =
    same_from_bits_below 64 a b a_lt b_lt (λ i lt.
    let bit : bit_at (bit_xor a b) i ≡ 0 = ap (λ (n : ℕ). bit_at n i) none ∙ bit_at-zero i in
    omega (arith, bit, bit_at_xor a b i, bit_at-lt a i, bit_at-lt b i))

pub loop-index-preserved : goal.loop-index-preserved
loop-index-preserved c =
    let a = get_or c.args.words.now c.loop-index.index 0 in
    let b = get_or c.args.others.now c.loop-index.index 0 in
    record {
      same = λ zero i lt. elim (cases_lt i c.loop-index.index) [
        | inl before ↦ c.loop-index.invariant.same (omega (arith, zero, le_or_l c.loop-index.any (bit_xor a b))) i before
        | inr from ↦
            let at : i ≡ c.loop-index.index = omega arith in
            rw at (same_word a b (omega (arith, c.type_inv.words c.loop-index.index)) (omega (arith, c.type_inv.others c.loop-index.index)) (omega (arith, zero, le_or_r c.loop-index.any (bit_xor a b))))
      ];
      all = λ same.
          let before : c.loop-index.any ≡ 0 = c.loop-index.invariant.all (λ i lt. same i (omega arith)) in
          let last : a ≡ b = same c.loop-index.index (omega arith) in
          rw (before, last, xor_self b) refl;
    }

pub returns : goal.returns
returns c = (
  λ t. ext_get_or 0 c.args.words.now c.args.others.now c.requires (λ i lt. c.loop-index.invariant.same (eqb-true _ _ t) i (omega (arith, lt, c.loop-index-test.false))),
  λ e. eq-eqb _ _ (c.loop-index.invariant.all (λ i lt. rw e refl)),
)
