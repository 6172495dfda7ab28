use Rattle.std.proofs.Common.{◌≡◌, ◌+◌, ◌-◌, ◌<◌, ℕ, suc, List, [], length, take, drop, get_or, set, refl, sym, ap, ◌∙◌, subst, arith}
use Rattle.std.specs.List.{insert, remove, swap}
use Rattle.std.proofs.lemmas.List.{drop_all, length-set, length-take-le}
use Rattle.std.proofs.lemmas.List.Edits.{length-remove}
use Rattle.late_window.specs.Order.{Numbered}
use Rattle.late_window.specs.Lines.{AreFrom}
use Rattle.late_window.proofs.Sortings.{AreFrom-before, AreUpTo, AreUpTo-front, held-placed, read-inserted, set-inserted, swap-inserted}
use Rattle.late_window.proofs.sorter.hold.Goals as goal

pub loop-at-init : goal.loop-at-init
loop-at-init c =
    let places = c.args.places.now.items in
    let held = c.args.held in
    let a : Numbered = record { number = c.args.t; body = c.args.bytes.now } in
    let none : drop held (take held places) ≡ [] = drop_all held (take held places) (omega (arith, length-take-le held places (omega (arith, c.requires.place)))) in
    record {
      within = omega arith;
      after = subst (AreFrom (c.args.t + 1)) (sym none) tt;
      items = ap (set places held) c.fill.ensures ∙ set-inserted places held a c.requires.place;
      size = length-set places held c.fill.new.self;
      room = refl;
    }

pub loop-at-preserved : goal.loop-at-preserved
loop-at-preserved c =
    let places = c.args.places.now.items in
    let held = c.args.held in
    let a : Numbered = record { number = c.args.t; body = c.args.bytes.now } in
    let at = c.loop-at.at - 1 in
    let next : suc at ≡ c.loop-at.at = omega (arith, c.loop-at-test.true) in
    let lt : at < held = omega (arith, next, c.loop-at.invariant.within) in
    let front : length (take held places) ≡ held = length-take-le held places (omega (arith, c.requires.place)) in
    let here = c.loop-at.invariant.items ∙ ap (λ (n : ℕ). insert (remove places held) n a) (sym next) in
    let read = c.index.ensures ∙ (ap (λ (l : List Numbered). get_or l at c.index.result.now) here ∙ read-inserted places held at a c.index.result.now lt c.requires.place) in
    record {
      within = omega (arith, lt);
      after = AreFrom-before (c.args.t + 1) (take held places) at c.index.result.now (omega (arith, lt, front)) (omega (arith, ap (λ (b : Numbered). b.number) read, c.if-t-number.true, c.number.ensures)) (subst (λ (n : ℕ). AreFrom (c.args.t + 1) (drop n (take held places))) (sym next) c.loop-at.invariant.after);
      items = c.swap.ensures.items ∙ (ap (λ (n : ℕ). swap c.loop-at.places.items at n) (sym next) ∙ (ap (λ (l : List Numbered). swap l at (suc at)) here ∙ swap-inserted (remove places held) at a (omega (arith, lt, c.requires.place, length-remove places held c.requires.place))));
      size = omega (arith);
      room = c.swap.ensures.capacity ∙ c.loop-at.invariant.room;
    }

pub returns-else-t-number-clause-held : goal.returns-else-t-number-clause-held
returns-else-t-number-clause-held c =
    let places = c.args.places.now.items in
    let held = c.args.held in
    let a : Numbered = record { number = c.args.t; body = c.args.bytes.now } in
    let at = c.loop-at.at - 1 in
    let next : suc at ≡ c.loop-at.at = omega (arith, c.loop-at-test.true) in
    let lt : at < held = omega (arith, next, c.loop-at.invariant.within) in
    let front : length (take held places) ≡ held = length-take-le held places (omega (arith, c.requires.place)) in
    let here = c.loop-at.invariant.items ∙ ap (λ (n : ℕ). insert (remove places held) n a) (sym next) in
    let read = c.index.ensures ∙ (ap (λ (l : List Numbered). get_or l at c.index.result.now) here ∙ read-inserted places held at a c.index.result.now lt c.requires.place) in
    let before = AreUpTo-front c.args.t (take held places) at c.index.result.now c.requires.rising (omega (arith, lt, front)) (omega (arith, ap (λ (b : Numbered). b.number) read, c.if-t-number.false, c.number.ensures)) in
    ap (take (held + 1)) c.loop-at.invariant.items ∙ held-placed places held c.loop-at.at a c.requires.place c.loop-at.invariant.within (subst (λ (n : ℕ). AreUpTo c.args.t (take n (take held places))) next before) c.loop-at.invariant.after

pub returns-after-loop-at-clause-held : goal.returns-after-loop-at-clause-held
returns-after-loop-at-clause-held c =
    let places = c.args.places.now.items in
    let held = c.args.held in
    let a : Numbered = record { number = c.args.t; body = c.args.bytes.now } in
    let first : 0 ≡ c.loop-at.at = omega (arith, c.loop-at-test.false) in
    ap (take (held + 1)) c.loop-at.invariant.items ∙ held-placed places held c.loop-at.at a c.requires.place c.loop-at.invariant.within (subst (λ (n : ℕ). AreUpTo c.args.t (take n (take held places))) first tt) c.loop-at.invariant.after
