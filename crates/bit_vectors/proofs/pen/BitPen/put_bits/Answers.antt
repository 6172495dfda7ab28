use Rattle.std.proofs.Common.{◌≡◌, ◌+◌, ◌-◌, ◌*◌, ◌/◌, ◌^◌, ◌≤◌, ◌++◌, ℕ, Bool, List, length, take, refl, ◌∙◌, append_assoc, arith}
use Rattle.std.proofs.lemmas.List.{take_all}
use Rattle.bit_vectors.specs.Vectors.{number_bits}
use Rattle.bit_vectors.specs.Words.{IsWord}
use Rattle.bit_vectors.proofs.WordBytes.{word_part, high_below}
use Rattle.bit_vectors.proofs.pen.BitPen.put_bits.Goals as goal
use Rattle.bit_vectors.proofs.pen.BitPen.put_bits.Goals.{After-word-2}

-- the bits of a word after those of the words before it
appended : (before now v : List Bool) (index word width : ℕ) → now ≡ before ++ take (64 * index) v → IsWord v index word → width ≤ 64 → 64 * index + width ≤ length v → now ++ number_bits width (word / 2 ^ (64 - width)) ≡ before ++ take (64 * index + width) v
appended before now v index word width so_far is most within =
    rw (so_far, append_assoc before (take (64 * index) v) (number_bits width (word / 2 ^ (64 - width))), word_part v index word width is most within) refl

whole_word : (before now v : List Bool) (index word : ℕ) → now ≡ before ++ take (64 * index) v → IsWord v index word → 64 * index + 64 ≤ length v → now ++ number_bits 64 word ≡ before ++ take (64 * (index + 1)) v
whole_word before now v index word so_far is within =
    let next : 64 * (index + 1) ≡ 64 * index + 64 = omega arith in
    let all : word / 2 ^ (64 - 64) ≡ word = omega arith in
    rw (next, ← all) (appended before now v index word 64 so_far is (omega arith) within)

pub loop-index-preserved : goal.loop-index-preserved
loop-index-preserved c = (
  c.put_word.ensures.bits ∙ whole_word c.args.self.now.bits c.loop-index.self.bits c.args.bits.now c.loop-index.index c.word.result c.loop-index.invariant.0 c.word.ensures (omega (arith, c.word_count-last.ensures.count, c.loop-index-test.true)),
  c.put_word.ensures.room ∙ c.loop-index.invariant.1,
)

-- the width of the last word
last_width : (c : After-word-2) → c.len.result - 64 * (c.word_count-last.result - 1) ≤ 64
last_width c = omega (arith, c.word_count-last.ensures.count, c.len.ensures.len)

pub put_word-requires-2-clause-fits : goal.put_word-requires-2-clause-fits
put_word-requires-2-clause-fits c =
    high_below c.word-2.result (c.len.result - 64 * (c.word_count-last.result - 1)) c.word-2.type_inv (last_width (goal.at.put_word-requires-2-clause-fits c).After-word-2)

last_word : (before now v : List Bool) (index last word len : ℕ) → now ≡ before ++ take (64 * index) v → index ≡ last → IsWord v last word → len ≡ length v → 64 * last ≤ len → len - 64 * last ≤ 64
    → now ++ number_bits (len - 64 * last) (word / 2 ^ (64 - (len - 64 * last))) ≡ before ++ v
last_word before now v index last word len so_far same is all le most =
    let end : 64 * last + (len - 64 * last) ≡ length v = omega arith in
    let whole : take (64 * last + (len - 64 * last)) v ≡ v = take_all (64 * last + (len - 64 * last)) v (omega arith) in
    appended before now v last word (len - 64 * last) (rw (← same) so_far) is most (omega arith) ∙ rw whole refl

pub returns-clause-bits : goal.returns-clause-bits
returns-clause-bits c =
    c.put_word-2.ensures.bits
    ∙ last_word c.args.self.now.bits c.loop-index.self.bits c.args.bits.now c.loop-index.index (c.word_count-last.result - 1) c.word-2.result c.len.result c.loop-index.invariant.0 (omega arith) c.word-2.ensures c.len.ensures.len (omega (arith, c.word_count-last.ensures.count, c.len.ensures.len)) (last_width (goal.at.returns-clause-bits c).After-word-2)
