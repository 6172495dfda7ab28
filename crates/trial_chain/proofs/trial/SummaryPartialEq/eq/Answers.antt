use Rattle.std.proofs.Common.{◌≡◌, ◌&&◌, Bool, ap, ◌∙◌}
use Rattle.std.specs.Prelude.{eqb}
use Rattle.std.proofs.Math.Bool.{and_assoc}
use Rattle.trial_chain.proofs.trial.SummaryPartialEq.eq.Goals as goal

-- the comparisons are joined from the left, and said from the right
regrouped : (so_far x y z : Bool) → so_far ≡ (x && y) → (so_far && z) ≡ (x && (y && z))
regrouped so_far x y z is = ap (λ b. b && z) is ∙ and_assoc x y z

pub returns : goal.returns
returns c =
    let one = c.args.self.now in
    let other = c.args.other.now in
    let six = eqb one.listed other.listed in
    let five = eqb one.written other.written in
    let four = eqb one.delivered other.delivered in
    let three = eqb one.played other.played in
    let two = eqb one.store other.store in
    let first = eqb one.recording other.recording in
    c.and_eq-6.ensures
    ∙ (regrouped c.and_eq-5.result c.and_eq-4.result five six c.and_eq-5.ensures
    ∙ (regrouped c.and_eq-4.result c.and_eq-3.result four (five && six) c.and_eq-4.ensures
    ∙ (regrouped c.and_eq-3.result c.and_eq-2.result three (four && (five && six)) c.and_eq-3.ensures
    ∙ (regrouped c.and_eq-2.result c.and_eq.result two (three && (four && (five && six))) c.and_eq-2.ensures
    ∙ (regrouped c.and_eq.result c.eq.result first (two && (three && (four && (five && six)))) c.and_eq.ensures
    ∙ ap (λ b. b && (first && (two && (three && (four && (five && six)))))) c.eq.ensures)))))
