use Rattle.std.proofs.Common.{◌≡◌, ◌+◌, ◌-◌, ◌*◌, ◌^◌, ◌<◌, ◌≤◌, ◌++◌, ℕ, List, Bool, length, refl, sym, ap, ◌∙◌, arith, append_assoc}
use Rattle.std.proofs.lemmas.List.{length-append}
use Rattle.bit_vectors.specs.Vectors.{number_bits}
use Rattle.bit_vectors.proofs.NumberBits.{length-number_bits}
use Rattle.count_code.specs.Code.{count_bits}
use Rattle.run_code.specs.Runs.{runs_from, run_bits}
use Rattle.run_code.proofs.Gathering.{no_number}
use Rattle.run_code.proofs.RunWords.{places_down_fall, runs_from-cons, runs_from-nil, count_bits_most, run_bits_most}
use Rattle.run_code.proofs.runs.put_runs.Goals as goal
use Rattle.run_code.proofs.runs.put_runs.Goals.{then-held-gt-MANY_BITS, else-held-gt-MANY_BITS}

pub loop-place-init : goal.loop-place-init
unfolding run_bits
loop-place-init c =
    let len = c.len-below.ensures.len in
    let all = c.into_iter-place-iterator.ensures.into_iter_gives ∙ c.ones_down-place-items.ensures in
    let none = c.none-held.ensures in
    record {
      within = omega arith;
      falling = rw (len, all) (places_down_fall c.args.v.now);
      room = refl;
      most = omega (arith, none.width);
      small = rw (none.value, none.width) (omega arith);
      fits = omega (arith, len, none.width, c.requires);
      bits = rw (len, all, none.value, none.width, no_number 0) refl;
    }

-- a pen, and the bits that are held, of which few enough for one word more, and those after them
record AreHeld (all rest bits : List Bool) (pen_room room below value width : ℕ) : Type 0 where
  same_room : pen_room ≡ room
  most : width ≤ 33
  small : value < 2 ^ width
  fits : length bits + width + (4 * below + 2) ≤ pen_room
  same : bits ++ (number_bits width value ++ rest) ≡ all

-- the bits that are held with a word more
width_more : (old word new : List Bool) (before after : ℕ) → length old ≡ before → length new ≡ after → new ≡ old ++ word → after ≡ before + length word
width_more old word new before after were are same = omega (arith, were, are, ap (λ (bits : List Bool). length bits) same, length-append old word)

pub loop-place-preserved : goal.loop-place-preserved
loop-place-preserved c =
    let i = c.loop-place.invariant in
    let s = c.if-held-gt-MANY_BITS in
    let step = c.in-Some.ensures.steps in
    let falling = rw step at i.falling in
    let rest = runs_from c.loop-place.below c.loop-place.place-iterator in
    let before = number_bits c.loop-place.held.width c.loop-place.held.value in
    let h : AreHeld (c.args.pen.now.bits ++ run_bits c.args.v.now) rest s.pen.bits s.pen.room c.args.pen.now.room c.loop-place.below s.held.value s.held.width =
    elim c.if-held-gt-MANY_BITS.branch [
      | then-held-gt-MANY_BITS w ↦
          let none = w.none-held-then-held-gt-MANY_BITS.ensures in
          rw (w.pen-is, w.held-is) (record {
            same_room = w.put_word.ensures.room ∙ i.room;
            most = omega (arith, none.width);
            small = rw (none.value, none.width) (omega arith);
            fits = rw (w.put_word.ensures.bits, w.put_word.ensures.room, none.width) (omega (arith, i.fits, length-append c.loop-place.pen.bits before, length-number_bits c.loop-place.held.width c.loop-place.held.value));
            same = rw (w.put_word.ensures.bits, none.value, none.width, no_number 0, append_assoc c.loop-place.pen.bits before rest) i.bits;
          })
      | else-held-gt-MANY_BITS w ↦ rw (w.pen-is, w.held-is) (record { same_room = i.room; most = w.if-held-gt-MANY_BITS.false; small = i.small; fits = i.fits; same = i.bits })
    ] in
    let held = number_bits s.held.width s.held.value in
    let word = count_bits (c.loop-place.below - c.in-Some.place) in
    let more : rest ≡ word ++ runs_from c.in-Some.place c.next.new.self =
    ap (runs_from c.loop-place.below) step ∙ runs_from-cons c.loop-place.below c.in-Some.place c.next.new.self in
    let wider : c.with_count-held.result.width ≡ s.held.width + length word =
    width_more held word (number_bits c.with_count-held.result.width c.with_count-held.result.value) s.held.width c.with_count-held.result.width (length-number_bits s.held.width s.held.value) (length-number_bits c.with_count-held.result.width c.with_count-held.result.value) c.with_count-held.ensures.bits in
    record {
      within = omega (arith, i.within, falling.0);
      falling = falling.1;
      room = h.same_room;
      most = omega (arith, h.most, c.with_count-held.ensures.most);
      small = c.with_count-held.ensures.fits;
      fits = omega (arith, h.fits, falling.0, wider, count_bits_most (c.loop-place.below - c.in-Some.place) (omega (arith, falling.0)));
      bits =
          rw (c.with_count-held.ensures.bits, append_assoc held word (runs_from c.in-Some.place c.next.new.self))
          (ap (λ (bits : List Bool). s.pen.bits ++ (held ++ bits)) (sym more) ∙ h.same);
    }

pub returns-clause-bits : goal.returns-clause-bits
returns-clause-bits c =
    let held = number_bits c.loop-place.held.width c.loop-place.held.value in
    c.put_word-2.ensures.bits ∙ ap (λ (bits : List Bool). c.loop-place.pen.bits ++ bits) (c.with_end-all.ensures.bits ∙ ap (λ (bits : List Bool). held ++ bits) (sym (ap (runs_from c.loop-place.below) c.in-None.ensures.steps.0 ∙ runs_from-nil c.loop-place.below)))
    ∙ c.loop-place.invariant.bits

pub returns-clause-most : goal.returns-clause-most
returns-clause-most c = run_bits_most c.args.v.now
