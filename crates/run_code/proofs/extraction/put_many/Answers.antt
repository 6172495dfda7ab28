use Rattle.std.proofs.Common.{◌≡◌, ◌+◌, ◌-◌, ◌<◌, ℕ, zero, suc, Bool, List, length, refl, ◌∙◌, arith}
use Rattle.std.specs.Int.RustNames.{count_ones}
use Rattle.run_code.specs.Extraction.{places_before}
use Rattle.run_code.proofs.Gathering.{before_ones, same_lengths}
use Rattle.run_code.proofs.extraction.put_many.Goals as goal

some_word : (words : ℕ) (v : List Bool) → length (places_before (words - 1) v) < length (places_before words v) → 0 < words
some_word zero v lt = absurd (omega (arith, lt))
some_word (suc words) v lt = omega arith

pub loop-left-init : goal.loop-left-init
loop-left-init c =
    let some = some_word c.args.words c.args.b.now c.requires.some in
    let next : c.args.words - 1 + 1 ≡ c.args.words = omega (arith, some) in
    rw next (record { room = refl; below = omega (arith, some); some = c.requires.some; fits = c.requires.room; bits = refl; moves = refl })

pub loop-left-preserved : goal.loop-left-preserved
loop-left-preserved c =
    let i = c.loop-left.invariant in
    let e = c.put_moved.ensures in
    let next : c.loop-left.left - 1 + 1 ≡ c.loop-left.left = omega arith in
    let ones : length (places_before c.loop-left.left c.args.b.now) ≡ count_ones c.word.result + length (places_before (c.loop-left.left - 1) c.args.b.now) = rw next at (before_ones c.args.b.now c.args.b.now (c.loop-left.left - 1) c.word.result c.word.result c.word.type_inv c.word.ensures c.word.ensures) in
    rw next (record {
      room = e.room ∙ i.room;
      below = omega (arith, i.below);
      some = omega (arith, ones, c.if-word-le-MANY.false);
      fits = omega (arith, same_lengths c.args.a.now c.put_moved.new.pen.bits c.loop-left.pen.bits (places_before c.loop-left.left c.args.b.now) (places_before (c.loop-left.left + 1) c.args.b.now) e.bits, e.room, i.fits);
      bits = e.bits ∙ i.bits;
      moves = e.count ∙ i.moves;
    })

pub returns-then-left-eq0-clause-bits : goal.returns-then-left-eq0-clause-bits
returns-then-left-eq0-clause-bits c = c.put_moved.ensures.bits ∙ c.loop-left.invariant.bits
