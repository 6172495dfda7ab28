use Rattle.std.proofs.Common.{◌≡◌, ◌-◌, ℕ, List, length, ap, ◌∙◌, sym, arith}
use Rattle.std.proofs.lemmas.Fmt.{length-decimal-le}
use Rattle.std.proofs.lemmas.List.{length-drop, length-take}
use Rattle.param_table.proofs.line.Line.put_number.Goals as goal
use Rattle.param_table.proofs.line.Line.put_number.Goals.{After-deref_mut}

room : (c : After-deref_mut) → length c.args.self.now ≡ 8481 - c.self.inside.start
room c = ap (λ (l : List ℕ). length l) (sym c.self.view_is) ∙ (length-drop c.self.inside.start c.self.inside.bytes.items ∙ ap (λ (n : ℕ). n - c.self.inside.start) c.self.invariant.whole)

pub write_digits-self-inside-requires : goal.write_digits-self-inside-requires
write_digits-self-inside-requires c =
    let digits = length-decimal-le 20 c.args.number (omega arith) (omega arith) (omega arith) in
    (omega (arith, room c, c.requires, digits), omega (arith, c.deref_mut.ensures.len, ap (λ (l : List ℕ). length l) c.deref_mut.ensures.value, c.self.invariant.whole, c.self.invariant.within))

pub returns-clause-few : goal.returns-clause-few
returns-clause-few c =
    let d = (goal.at.returns-clause-few c).After-deref_mut in
    let digits = length-decimal-le 20 c.args.number (omega arith) (omega arith) (omega arith) in
    simp (length-drop, length-take) (omega (arith, room d, c.write_digits-self-inside.ensures.start, digits, c.deref_mut.ensures.len, ap (λ (l : List ℕ). length l) c.deref_mut.ensures.value, c.self.invariant.whole))
