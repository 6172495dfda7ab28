use Rattle.std.proofs.Common.{◌≡◌, Bool, true, List, [], ◌∷◌, ◌++◌, length, drop, sym, ap, ◌∙◌}
use Rattle.std.proofs.lemmas.Bool.{false≢true}
use Rattle.circular_buffer.specs.Buffer.{Buffer, buffer}
use Rattle.robust_window.specs.Window.{LatestChanges, changes_of}
use Rattle.robust_window.proofs.Marking.{AreChanges-pushed, changes_of-pushed}
use Rattle.robust_window.proofs.Standing.{Buffer-pushed}
use Rattle.robust_window.proofs.changes.Changes.push.Goals as goal
use Rattle.robust_window.proofs.changes.Changes.push.Goals.{After-pushed-self-inside}

slots_are : (c : After-pushed-self-inside) → c.push_back.new.self ≡ buffer (drop 1 c.self.inside.slots.items ++ c.args.change.now ∷ []) 16
slots_are c = Buffer-pushed c.self.inside.slots c.pop_front.new.self c.push_back.new.self _ c.args.change.now c.self.invariant.count c.self.invariant.full c.pop_front.ensures.items c.push_back.ensures.items c.copy_from.ensures

pub invariant_of-self : goal.invariant_of-self
invariant_of-self c =
    let s = c.self.inside in
    AreChanges-pushed s.slots c.push_back.new.self s.marks c.pushed-self-inside.result s.zeros c.args.change.now c.args.change.now true c.self.invariant (slots_are (goal.at.invariant_of-self c).After-pushed-self-inside) c.pushed-self-inside.type_inv c.pushed-self-inside.ensures
    (c.requires.places ∙ ap (λ (k : LatestChanges). k.places) (sym c.self.view_is)) (λ _. c.requires.some)

pub returns : goal.returns
returns c =
    let s = c.self.inside in
    let latest = ap (λ (b : Buffer (List Bool)). changes_of (length s.zeros) c.pushed-self-inside.result b.items) (slots_are (goal.at.returns c).After-pushed-self-inside)
    ∙ changes_of-pushed (length s.zeros) s.marks c.pushed-self-inside.result s.slots.items c.args.change.now c.args.change.now true c.self.invariant.count c.pushed-self-inside.ensures (λ is. absurd (false≢true (sym is))) in
    (λ i. record { places = length s.zeros; latest = latest i }) ∙ ap (λ (k : LatestChanges). record k { latest = drop 1 k.latest ++ c.args.change.now ∷ [] }) c.self.view_is
