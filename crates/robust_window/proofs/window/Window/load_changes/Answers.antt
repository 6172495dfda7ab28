use Rattle.std.proofs.Common.{◌≡◌, Bool, List, ◌+◌, ◌-◌, length, drop, sym, ap, subst, ◌∙◌, arith}
use Rattle.std.proofs.lemmas.List.{drop_all, take_all}
use Rattle.bit_vectors.specs.Vectors.{IsPlaces}
use Rattle.robust_window.specs.Window.{LatestChanges, WindowState}
use Rattle.robust_window.proofs.SavedWindows.{last_left, next_begins, of_places, pushed_more}
use Rattle.robust_window.proofs.Standing.{length-pushed}
use Rattle.robust_window.proofs.window.Window.load_changes.Goals as goal

pub loop-change-init : goal.loop-change-init
loop-change-init c = record {
  left = λ given. given.bytes_are;
  latest = λ given. drop_all 16 c.self.inside.changes.latest (omega (arith, c.self.invariant.full));
  places = ap (λ (k : WindowState). length k.recent) c.self.view_is;
  kept = c.self.invariant;
}

pub take_vector-rest-requires : goal.take_vector-rest-requires
take_vector-rest-requires c =
    let given = c.requires in
    let before = c.loop-change.invariant in
    (_, _, of_places _ _ _ _ _ (next_begins (length c.args.self.now.recent) c.loop-change._change given.changes given.recent c.loop-change.rest.now c.loop-change-test.true given.sixteen (before.left given)) (sym before.places))

pub push_any-self-inside-requires : goal.push_any-self-inside-requires
push_any-self-inside-requires c = c.take_vector-rest.ensures.places ∙ sym c.loop-change.invariant.kept.places

pub loop-change-preserved : goal.loop-change-preserved
loop-change-preserved c =
    let before = c.loop-change.invariant in
    let kept = c.loop-change.invariant.kept in
    let len = c.take_vector-rest.ensures.places in
    let pushed = c.push_any-self-inside.ensures.pushed in
    let latest = ap (λ (k : LatestChanges). k.latest) pushed in
    let changed = ap (λ (k : LatestChanges). k.places) pushed in
    record {
      left = λ given. (c.take_vector-rest.ensures.taken _ _ (of_places _ _ _ _ _ (next_begins (length c.args.self.now.recent) c.loop-change._change given.changes given.recent c.loop-change.rest.now c.loop-change-test.true given.sixteen (before.left given)) (sym before.places))).1;
      latest = λ given.
          let v = (c.take_vector-rest.ensures.taken _ _ (of_places _ _ _ _ _ (next_begins (length c.args.self.now.recent) c.loop-change._change given.changes given.recent c.loop-change.rest.now c.loop-change-test.true given.sixteen (before.left given)) (sym before.places))).0 in
          ap (λ (vs : List (List Bool)). drop (16 - (c.loop-change._change + 1)) vs) latest
          ∙ pushed_more c.loop-change._change c.loop-change.self-inside.changes.latest given.changes c.take_vector-rest.new.vector c.loop-change-test.true kept.full given.sixteen.count (before.latest given) v;
      places = len ∙ before.places;
      kept = record {
        vector = subst IsPlaces (sym len) kept.vector;
        places = changed ∙ kept.places ∙ sym len;
        full = ap (λ (vs : List (List Bool)). length vs) latest ∙ length-pushed c.loop-change.self-inside.changes.latest c.take_vector-rest.new.vector kept.full;
        zero = c.push_any-self-inside.ensures.zero;
        some = c.push_any-self-inside.ensures.some;
        level_most = kept.level_most;
        taken_most = kept.taken_most;
      };
    }

pub invariant_of-self : goal.invariant_of-self
invariant_of-self c = c.loop-change.invariant.kept

pub returns-clause-places : goal.returns-clause-places
returns-clause-places c = c.loop-change.invariant.places

pub returns-clause-taken : goal.returns-clause-taken
returns-clause-taken c given =
    let count : c.loop-change._change ≡ 16 = omega (arith, c.loop-change-test.false, c.loop-change.auto._change-end) in
    let none : 16 - c.loop-change._change ≡ 0 = omega (arith, count) in
    let kept = c.loop-change.invariant.kept in (
      ap (λ n. drop n c.loop-change.self-inside.changes.latest) (sym none) ∙ c.loop-change.invariant.latest given ∙ take_all c.loop-change._change given.changes (omega (arith, count, given.sixteen.count)),
      last_left (length c.args.self.now.recent) c.loop-change._change given.changes given.recent c.loop-change.rest.now c.loop-change-test.false given.sixteen (c.loop-change.invariant.left given),
    )
