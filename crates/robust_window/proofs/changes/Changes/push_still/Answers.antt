use Rattle.std.proofs.Common.{rules, ◌≡◌, ◌-◌, Bool, false, List, [], ◌∷◌, ◌++◌, length, drop, replicate, refl, sym, ap, ◌∙◌, arith}
use Rattle.std.proofs.lemmas.Bool.{false≢true}
use Rattle.std.proofs.lemmas.List.Elements.{All-get_or}
use Rattle.circular_buffer.specs.Buffer.{Buffer, buffer}
use Rattle.robust_window.specs.Window.{LatestChanges, change_back, changes_of}
use Rattle.robust_window.proofs.Marking.{AreChanges-pushed, changes_of-none, changes_of-pushed}
use Rattle.robust_window.proofs.Standing.{Buffer-pushed}
use Rattle.robust_window.proofs.changes.Changes.push_still.Goals as goal
use Rattle.robust_window.proofs.changes.Changes.push_still.Goals.{After-pushed-self-inside}

slots_are : (c : After-pushed-self-inside) → c.push_back.new.self ≡ buffer (drop 1 c.self.inside.slots.items ++ change_back c.self.inside.slots.items 15 ∷ []) 16
slots_are c =
    let oldest : c.in-Some.oldest ≡ change_back c.self.inside.slots.items 15 = search rules in
    Buffer-pushed c.self.inside.slots c.pop_front.new.self c.push_back.new.self _ _ c.self.invariant.count c.self.invariant.full c.pop_front.ensures.items c.push_back.ensures.items oldest

pub invariant_of-self : goal.invariant_of-self
invariant_of-self c =
    let s = c.self.inside in
    let kept = change_back s.slots.items 15 in
    let fits = All-get_or (λ (v : List Bool). length v ≡ length s.zeros) s.slots.items (15 - 15) [] (omega (arith, c.self.invariant.count)) c.self.invariant.places in
    AreChanges-pushed s.slots c.push_back.new.self s.marks c.pushed-self-inside.result s.zeros kept kept false c.self.invariant (slots_are (goal.at.invariant_of-self c).After-pushed-self-inside) c.pushed-self-inside.type_inv c.pushed-self-inside.ensures fits
    (λ is. absurd (false≢true is))

pub returns-in-Some : goal.returns-in-Some
returns-in-Some c =
    let s = c.self.inside in
    let f = length s.zeros in
    let latest = ap (λ (b : Buffer (List Bool)). changes_of f c.pushed-self-inside.result b.items) (slots_are (goal.at.returns-in-Some c).After-pushed-self-inside)
    ∙ changes_of-pushed f s.marks c.pushed-self-inside.result s.slots.items (replicate f false) (change_back s.slots.items 15) false c.self.invariant.count c.pushed-self-inside.ensures (λ _. refl) in
    (λ i. record { places = f; latest = latest i }) ∙ ap (λ (k : LatestChanges). record k { latest = drop 1 k.latest ++ replicate k.places false ∷ [] }) c.self.view_is

-- nothing is marked
pub returns-else-self-ne0 : goal.returns-else-self-ne0
returns-else-self-ne0 c =
    let s = c.self.inside in
    let f = length s.zeros in
    let all = changes_of-none f s.marks s.slots.items c.self.invariant.count c.if-self-ne0.false in
    sym c.self.view_is
    ∙ (λ i. record { places = f; latest = (all ∙ ap (λ (l : List (List Bool)). drop 1 l ++ replicate f false ∷ []) (sym all)) i })
    ∙ ap (λ (k : LatestChanges). record k { latest = drop 1 k.latest ++ replicate k.places false ∷ [] }) c.self.view_is
