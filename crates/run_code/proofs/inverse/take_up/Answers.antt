use Rattle.std.proofs.Common.{◌≡◌, ◌+◌, ◌*◌, ◌^◌, ◌<◌, ◌≤◌, ◌++◌, ℕ, Bool, List, false, length, refl, sym, ap, ◌∙◌, arith, replicate}
use Rattle.std.specs.Prelude.{reverse}
use Rattle.std.specs.Int.RustNames.{count_ones}
use Rattle.std.proofs.lemmas.List.{length-append, length-reverse}
use Rattle.std.proofs.lemmas.Result.{err_from_is_err_and}
use Rattle.bit_vectors.specs.Reading.{bits_left}
use Rattle.bit_vectors.specs.Words.{IsWord}
use Rattle.bit_vectors.proofs.ExactReading.{MovesOn-refl, MovesOn-then}
use Rattle.run_code.specs.Extraction.{places_up, bits_at, bits_up, parse_filled}
use Rattle.run_code.proofs.Ones.{ones_below, length-ones_from}
use Rattle.run_code.proofs.Filling.{parse_filled-few}
use Rattle.run_code.proofs.InverseBits.{length-bits_at, filling_exact, zeros_filling}
use Rattle.std.proofs.lemmas.Nat.Bits.{bit_at-zero}
use Rattle.run_code.proofs.Upward.{no_bits_up, no_ones_below, nothing_taken, ones_below-most, ones_step_up, upward_all, taken_step, zeros_step}
use Rattle.run_code.proofs.inverse.take_up.Goals as goal

pub loop-index-init : goal.loop-index-init
loop-index-init c = record {
  moves = MovesOn-refl c.args.eye.now;
  places = sym c.requires;
  zeros = λ k lt. absurd (omega arith);
  taken = rw (no_ones_below c.args.x.now) refl;
}

-- a word without a one takes nothing
pub loop-index-preserved-then-at-eq0 : goal.loop-index-preserved-then-at-eq0
loop-index-preserved-then-at-eq0 c =
    let i = c.loop-index.invariant in
    let at = c.word-at.result in
    let none = c.if-at-eq0.true in
    let left = bits_left c.loop-index.eye in
    record {
      moves = i.moves;
      places = c.set_word.ensures.len ∙ i.places;
      zeros = zeros_step c.loop-index.into c.set_word.new.self c.args.x.now c.loop-index.index 0 at c.word-at.ensures c.set_word.ensures.word c.set_word.ensures.others (λ weight lt. bit_at-zero weight) i.zeros;
      taken = taken_step (bits_left c.args.eye.now) left left c.loop-index.into c.set_word.new.self c.args.x.now c.loop-index.index 0 at 0 c.word-at.ensures c.set_word.ensures.word c.set_word.ensures.others (no_bits_up at none) (nothing_taken at left none) i.taken;
    }

pub loop-index-preserved : goal.loop-index-preserved
loop-index-preserved c =
    let i = c.loop-index.invariant in
    let at = c.word-at.result in
    record {
      moves = MovesOn-then c.args.eye.now c.loop-index.eye c.take_word.new.self i.moves c.in_ok-number.ensures.moves;
      places = c.set_word-in-loop-index.ensures.len ∙ i.places;
      zeros = zeros_step c.loop-index.into c.set_word-in-loop-index.new.self c.args.x.now c.loop-index.index c.spread_up.result at c.word-at.ensures c.set_word-in-loop-index.ensures.word c.set_word-in-loop-index.ensures.others c.spread_up.ensures.others i.zeros;
      taken =
          taken_step (bits_left c.args.eye.now) (bits_left c.loop-index.eye) (bits_left c.take_word.new.self) c.loop-index.into c.set_word-in-loop-index.new.self c.args.x.now c.loop-index.index c.spread_up.result at c.in_ok-number.number c.word-at.ensures c.set_word-in-loop-index.ensures.word c.set_word-in-loop-index.ensures.others c.spread_up.ensures.bits c.in_ok-number.ensures.number i.taken;
    }

-- too few bits are left for the ones of a word
too_few : (old left into x : List Bool) (index at : ℕ) → at < 2 ^ 64 → IsWord x index at → old ≡ reverse (bits_at into (ones_below (64 * index) x)) ++ left → length left < count_ones at → length old < length (places_up x)
too_few old left into x index at small is_x taken lt =
    let before = bits_at into (ones_below (64 * index) x) in
    omega (
      arith,
      ap (λ (bits : List Bool). length bits) taken,
      length-append (reverse before) left,
      length-reverse before,
      length-bits_at into (ones_below (64 * index) x),
      ones_step_up x index at small is_x,
      ones_below-most x (64 * (index + 1)),
      length-ones_from 0 x,
    )

pub returns-in_err-number-clause-reading : goal.returns-in_err-number-clause-reading
returns-in_err-number-clause-reading c =
    let p = err_from_is_err_and c.from_residual.result c.from_residual.ensures.1 in
    let i = c.loop-index.invariant in
    let h = c.in_err-number.ensures in
    let few = too_few (bits_left c.args.eye.now) (bits_left c.loop-index.eye) c.loop-index.into c.args.x.now c.loop-index.index c.word-at.result c.word-at.type_inv c.word-at.ensures i.taken (h.early.0 refl) in
    let end = ap (λ (bits : List Bool). length bits) h.moves.bits in
    rw (p.1, p.2, h.fault) (parse_filled-few (places_up c.args.x.now) (replicate (length c.args.x.now) false) (bits_left c.args.eye.now) few, sym end, h.at_end ∙ sym end)

pub returns-clause-reading : goal.returns-clause-reading
returns-clause-reading c =
    let i = c.loop-index.invariant in
    let x = c.args.x.now in
    let into = c.loop-index.into in
    let end : length x ≤ 64 * c.loop-index.index = omega (arith, c.word_count-index-end.ensures.count) in
    let taken : bits_left c.args.eye.now ≡ bits_up into x ++ bits_left c.loop-index.eye = i.taken ∙ ap (λ (bits : List Bool). bits ++ bits_left c.loop-index.eye) (upward_all into x c.loop-index.index end) in
    ap (parse_filled (places_up x) (replicate (length x) false)) taken
    ∙ (filling_exact x).reads into (bits_up into x) (bits_left c.loop-index.eye) (zeros_filling x into (64 * c.loop-index.index) i.places end i.zeros)
