use Rattle.std.proofs.Common.{◌-◌, ◌*◌, ◌/◌, ◌%◌, ◌^◌, ◌<◌, true, false, get_or, ℕ, bit_and, bit_or, w64, ◌∙◌, sym, refl, arith, rules}
use Rattle.std.specs.Int.{bit_not}
use Rattle.std.proofs.lemmas.Bool.{eq-eqb}
use Rattle.std.proofs.lemmas.Nat.{or_lt, and_le_l, mod_below, pow_pos}
use Rattle.std.proofs.lemmas.Nat.Bits.{bit_at_set_same, bit_at_set_other, bit_at_clear_same, bit_at_clear_other}
use Rattle.bit_vectors.proofs.WordBits.{WritesBit, bit_of-written, bit_of-unwritten, numbers-set}
use Rattle.bit_vectors.proofs.words.write_bit_in_words.Goals as goal

sets : (n at : ℕ) → at < 64 → WritesBit n (bit_or n (1 * 2 ^ at % 2 ^ 64)) at true
sets n at lt = record {
  bit = eq-eqb _ _ (bit_at_set_same w64 n at lt);
  others = λ i i_lt other. bit_at_set_other w64 n at lt i other;
}

clears : (n at : ℕ) → at < 64 → WritesBit n (bit_and n (bit_not w64 (1 * 2 ^ at % 2 ^ 64))) at false
clears n at lt = record {
  bit = rw (bit_at_clear_same w64 n at lt) refl;
  others = λ i i_lt other. bit_at_clear_other w64 n at lt i i_lt other;
}

pub returns-then-value-clause-bit : goal.returns-then-value-clause-bit
returns-then-value-clause-bit c =
    bit_of-written c.args.words.now c.args.place _ true (omega arith) (sets (get_or c.args.words.now (c.args.place / 64) 0) (63 - c.args.place % 64) (omega arith)) ∙ sym c.if-value.true

pub returns-then-value-clause-others : goal.returns-then-value-clause-others
returns-then-value-clause-others c =
    bit_of-unwritten c.args.words.now c.args.place _ true (omega arith) (sets (get_or c.args.words.now (c.args.place / 64) 0) (63 - c.args.place % 64) (omega arith))

pub returns-then-value-clause-numbers : goal.returns-then-value-clause-numbers
returns-then-value-clause-numbers c =
    numbers-set c.args.words.now (c.args.place / 64) _ (λ i. search rules) (or_lt 64 _ _ (search rules) (mod_below _ (2 ^ 64) (pow_pos 64)))

pub returns-else-value-clause-bit : goal.returns-else-value-clause-bit
returns-else-value-clause-bit c =
    bit_of-written c.args.words.now c.args.place _ false (omega arith) (clears (get_or c.args.words.now (c.args.place / 64) 0) (63 - c.args.place % 64) (omega arith)) ∙ sym c.if-value.false

pub returns-else-value-clause-others : goal.returns-else-value-clause-others
returns-else-value-clause-others c =
    bit_of-unwritten c.args.words.now c.args.place _ false (omega arith) (clears (get_or c.args.words.now (c.args.place / 64) 0) (63 - c.args.place % 64) (omega arith))

pub returns-else-value-clause-numbers : goal.returns-else-value-clause-numbers
returns-else-value-clause-numbers c =
    numbers-set c.args.words.now (c.args.place / 64) _ (λ i. search rules) (let below : get_or c.args.words.now (c.args.place / 64) 0 < 2 ^ 64 = search rules in omega (arith, and_le_l (get_or c.args.words.now (c.args.place / 64) 0)))
