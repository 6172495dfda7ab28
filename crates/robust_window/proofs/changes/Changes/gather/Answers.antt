use Rattle.std.proofs.Common.{◌≡◌, ◌-◌, ◌<◌, false, true, sym, ap, ◌∙◌, arith, subst, List, Bool, [], length, replicate}
use Rattle.std.specs.Prelude.{Contains}
use Rattle.std.proofs.lemmas.Bool.{OnFalse_from, OnTrue_at, OnTrue_from, false≢true}
use Rattle.std.proofs.lemmas.List.{length-replicate}
use Rattle.std.proofs.lemmas.List.Elements.{All-get_or}
use Rattle.bit_vectors.specs.Vectors.{or_bits}
use Rattle.robust_window.specs.Window.{LatestChanges, change_back, mark_back}
use Rattle.robust_window.proofs.Marking.{latest-marked, latest-quiet}
use Rattle.robust_window.proofs.Standing.{gathered-some, gathered-more, gathered-none, gathered-quiet, gathered-zeros}
use Rattle.robust_window.proofs.changes.Changes.gather.Goals as goal
use Rattle.robust_window.proofs.changes.Changes.gather.Goals.{then-is_set, else-is_set}

-- nothing is marked, and nothing was marked before
pub returns-then-are_clear-clause-recent : goal.returns-then-are_clear-clause-recent
returns-then-are_clear-clause-recent c =
    let s = c.self.inside in
    OnTrue_at c.if-quiet.true c.requires.quiet
    ∙ gathered-zeros (length c.args.recent.now) c.args.self.now.latest c.args.count
    (λ back lt. latest-quiet s.slots s.marks s.zeros c.args.self.now c.self.invariant c.self.view_is back (omega (arith, lt, c.requires.kept.1)) (c.are_clear.ensures.0 c.if-are_clear.true back lt) ∙ ap (λ n. replicate n false) (sym c.requires.places))

pub loop-back-init : goal.loop-back-init
loop-back-init c =
    let f = length c.args.recent.now in
    record { places = ap length c.clear.ensures ∙ length-replicate f false; gathered = c.clear.ensures ∙ gathered-none f c.args.self.now.latest; zero = c.clear.ensures; some = tt }

pub or_in-requires : goal.or_in-requires
or_in-requires c =
    let s = c.self.inside in
    let fits = All-get_or (λ (change : List Bool). length change ≡ length s.zeros) s.slots.items (15 - c.loop-back.back) [] (omega (arith, c.self.invariant.count)) c.self.invariant.places in
    c.loop-back.invariant.places ∙ c.requires.places ∙ ap (λ (k : LatestChanges). k.places) (sym c.self.view_is) ∙ sym (ap length c.slot_back.ensures ∙ fits)

pub loop-back-preserved : goal.loop-back-preserved
loop-back-preserved c =
    let s = c.self.inside in
    let f = length c.args.recent.now in
    let slots = s.slots.items in
    let back = c.loop-back.back in
    let latest = c.args.self.now.latest in
    let lt : back < 16 = omega arith in
    elim c.if-is_set.branch [
      | then-is_set w ↦
          let set : mark_back s.marks back ≡ true = sym c.is_set.ensures ∙ w.if-is_set.true in
          let same = latest-marked s.slots s.marks s.zeros c.args.self.now c.self.invariant c.self.view_is back lt set in
          let places : length (change_back slots back) ≡ f =
          All-get_or (λ (change : List Bool). length change ≡ length s.zeros) slots (15 - back) [] (omega (arith, c.self.invariant.count)) c.self.invariant.places
          ∙ ap (λ (k : LatestChanges). k.places) c.self.view_is ∙ sym c.requires.places in
          record {
            places = ap length w.recent-is ∙ (w.or_in.ensures.len ∙ c.loop-back.invariant.places);
            gathered =
                w.recent-is ∙ w.or_in.ensures.bits
                ∙ ap (or_bits c.loop-back.recent) (w.slot_back.ensures ∙ sym same)
                ∙ ap (λ v. or_bits v (change_back latest back)) c.loop-back.invariant.gathered
                ∙ gathered-more f latest back (ap length same ∙ places);
            zero = OnTrue_from _ _ (λ is. absurd (false≢true (sym w.is_zero-is ∙ is)));
            some = OnFalse_from _ _ (λ _.
                subst (λ (v : List Bool). Contains v true) (sym (w.recent-is ∙ w.or_in.ensures.bits ∙ ap (or_bits c.loop-back.recent) w.slot_back.ensures))
                (gathered-some c.loop-back.recent (change_back slots back) (places ∙ sym c.loop-back.invariant.places) (c.self.invariant.marked back lt set)));
          }
      | else-is_set w ↦
          let unset : mark_back s.marks back ≡ false = sym c.is_set.ensures ∙ w.if-is_set.false in
          record {
            places = ap length w.recent-is ∙ c.loop-back.invariant.places;
            gathered = w.recent-is ∙ c.loop-back.invariant.gathered ∙ gathered-quiet f latest back (latest-quiet s.slots s.marks s.zeros c.args.self.now c.self.invariant c.self.view_is back lt unset ∙ ap (λ n. replicate n false) (sym c.requires.places));
            zero = rw (w.is_zero-is, w.recent-is) c.loop-back.invariant.zero;
            some = rw (w.is_zero-is, w.recent-is) c.loop-back.invariant.some;
          }
    ]
