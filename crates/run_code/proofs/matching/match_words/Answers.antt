use Rattle.std.proofs.Common.{◌≡◌, ◌-◌, ◌^◌, ◌<◌, ◌≤◌, ◌++◌, ℕ, Bool, List, refl, ap, ◌∙◌, arith, append_assoc}
use Rattle.std.proofs.lemmas.Result.{err_from_is_err_and}
use Rattle.bit_vectors.specs.Reading.{EyeState, bits_left, MovesOn, parse_word}
use Rattle.bit_vectors.specs.Vectors.{number_bits}
use Rattle.bit_vectors.proofs.ExactReading.{MovesOn-refl, MovesOn-then, same_fault, same_more}
use Rattle.count_code.specs.Code.{count_bits}
use Rattle.run_code.specs.Runs.{runs_from, run_bits}
use Rattle.run_code.proofs.Gathering.{no_number}
use Rattle.run_code.proofs.RunWords.{places_down_fall, runs_from-cons, runs_from-nil}
use Rattle.run_code.proofs.matching.match_words.Goals as goal
use Rattle.run_code.proofs.matching.match_words.Goals.{then-held-gt-MANY_BITS+in_ok-match_word, else-held-gt-MANY_BITS}

pub loop-place-init : goal.loop-place-init
unfolding run_bits
loop-place-init c =
    let len = c.len-below.ensures.len in
    let all = c.into_iter-place-iterator.ensures.into_iter_gives ∙ c.ones_down-place-items.ensures in
    let none = c.none-held.ensures in
    record {
      within = omega (arith, len);
      falling = rw (len, all) (places_down_fall c.args.v.now);
      moves = MovesOn-refl c.args.eye.now;
      most = omega (arith, none.width);
      small = rw (none.value, none.width) (omega arith);
      same = rw (len, all, none.value, none.width, no_number 0) refl;
    }

pub returns-in_err-match_word-clause-reading : goal.returns-in_err-match_word-clause-reading
returns-in_err-match_word-clause-reading c =
    let p = err_from_is_err_and c.from_residual.result c.from_residual.ensures.1 in
    let held = number_bits c.loop-place.held.width c.loop-place.held.value in
    rw (p.1, p.2, c.loop-place.invariant.same)
    (same_fault held (runs_from c.loop-place.below c.loop-place.place-iterator) c.loop-place.eye c.match_word.new.self c.in_err-match_word.field-0.0 c.in_err-match_word.ensures.reading)

-- the bits that are held, of which few enough for one word more, and those after them
record AreHeld (start eye : EyeState) (all rest : List Bool) (value width : ℕ) : Type 0 where
  moves : MovesOn start eye
  most : width ≤ 33
  small : value < 2 ^ width
  same : parse_word all (bits_left start) ≡ parse_word (number_bits width value ++ rest) (bits_left eye)

pub loop-place-preserved : goal.loop-place-preserved
loop-place-preserved c =
    let i = c.loop-place.invariant in
    let s = c.if-held-gt-MANY_BITS in
    let step = c.in-Some.ensures.steps in
    let falling = rw step at i.falling in
    let rest = runs_from c.loop-place.below c.loop-place.place-iterator in
    let h : AreHeld c.args.eye.now s.eye (run_bits c.args.v.now) rest s.held.value s.held.width =
    elim c.if-held-gt-MANY_BITS.branch [
      | then-held-gt-MANY_BITS+in_ok-match_word w ↦
          let none = w.none-held-then-held-gt-MANY_BITS.ensures in
          rw (w.eye-is, w.held-is) (record {
            moves = MovesOn-then c.args.eye.now c.loop-place.eye w.match_word.new.self i.moves w.in_ok-match_word.ensures.moves;
            most = omega (arith, none.width);
            small = rw (none.value, none.width) (omega arith);
            same = rw (none.value, none.width, no_number 0) (i.same ∙ same_more (number_bits c.loop-place.held.width c.loop-place.held.value) rest (bits_left c.loop-place.eye) (bits_left w.match_word.new.self) w.in_ok-match_word.ensures.reading);
          })
      | else-held-gt-MANY_BITS w ↦ rw (w.eye-is, w.held-is) (record { moves = i.moves; most = w.if-held-gt-MANY_BITS.false; small = i.small; same = i.same })
    ] in
    let held = number_bits s.held.width s.held.value in
    let more : rest ≡ count_bits (c.loop-place.below - c.in-Some.place) ++ runs_from c.in-Some.place c.next.new.self =
    ap (runs_from c.loop-place.below) step ∙ runs_from-cons c.loop-place.below c.in-Some.place c.next.new.self in
    record {
      within = omega (arith, i.within, falling.0);
      falling = falling.1;
      moves = h.moves;
      most = omega (arith, h.most, c.with_count-held.ensures.most);
      small = c.with_count-held.ensures.fits;
      same = rw (c.with_count-held.ensures.bits, append_assoc held (count_bits (c.loop-place.below - c.in-Some.place)) (runs_from c.in-Some.place c.next.new.self))
          (h.same ∙ ap (λ (bits : List Bool). parse_word (held ++ bits) (bits_left s.eye)) more);
    }

pub returns-clause-reading : goal.returns-clause-reading
returns-clause-reading c =
    let given = rw c.with_end-all.ensures.bits at c.match_word-2.ensures.reading in
    rw (c.loop-place.invariant.same, c.in-None.ensures.steps.0, runs_from-nil c.loop-place.below) given
