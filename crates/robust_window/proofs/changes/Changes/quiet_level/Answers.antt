use Rattle.std.proofs.Common.{◌≡◌, ℕ, ◌+◌, ◌-◌, ◌<◌, ◌≤◌, ◌/◌, ◌^◌, Bool, List, false, true, w16, arith, subst, sym}
use Rattle.std.specs.Int.{trailing_zeros}
use Rattle.std.specs.Prelude.{Contains}
use Rattle.robust_window.specs.Window.{mark_back}
use Rattle.robust_window.proofs.Marking.{at_lowest, below_lowest, latest-marked, latest-quiet}
use Rattle.robust_window.proofs.changes.Changes.quiet_level.Goals as goal

pub returns-clause-quiet : goal.returns-clause-quiet
returns-clause-quiet c = λ back above within.
    let s = c.self.inside in
    let from = c.args.robust + 1 in
    let low : c.min.result ≤ c.args.robust + trailing_zeros w16 (s.marks / 2 ^ from) = omega (arith, c.min.ensures) in
    let at : from + (back - from) ≡ back = omega (arith, above) in
    latest-quiet s.slots s.marks s.zeros c.args.self.now c.self.invariant c.self.view_is back (omega (arith, within, c.min.ensures, c.max.ensures, c.requires.robust, c.requires.most))
    (subst (λ (i : ℕ). mark_back s.marks i ≡ false) at (below_lowest s.marks from (back - from) c.self.invariant.bound (omega (arith, above, within, low))))

pub returns-clause-stops : goal.returns-clause-stops
returns-clause-stops c = λ less.
    let s = c.self.inside in
    let from = c.args.robust + 1 in
    let zeros = trailing_zeros w16 (s.marks / 2 ^ from) in
    let next : c.min.result + 1 < 16 = omega (arith, less, c.max.ensures, c.requires.robust, c.requires.most) in
    let level : c.min.result ≡ c.args.robust + zeros = omega (arith, less, c.min.ensures, c.max.ensures) in
    let at : from + zeros ≡ c.min.result + 1 = omega (arith, level) in
    let set = subst (λ (i : ℕ). mark_back s.marks i ≡ true) at (at_lowest s.marks from c.self.invariant.bound (omega (arith, less, level, c.max.ensures, c.requires.robust, c.requires.most))) in
    subst (λ (v : List Bool). Contains v true) (sym (latest-marked s.slots s.marks s.zeros c.args.self.now c.self.invariant c.self.view_is _ next set)) (c.self.invariant.marked _ next set)
