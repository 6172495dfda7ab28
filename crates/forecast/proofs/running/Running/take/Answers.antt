use Rattle.std.proofs.Common.{◌≡◌, ℕ, ◌+◌, ◌≤◌, Bool, cond, add-zero, ap, sym, ◌∙◌, subst, arith}
use Rattle.loss_player.specs.Tallies.{IsTally, tally_of, tally_with}
use Rattle.loss_player.specs.declared.played.Tally.{Tally}
use Rattle.loss_player.proofs.Tallies.{tally_next}
use Rattle.forecast.specs.declared.fate.Fate.{Fate}
use Rattle.forecast.specs.declared.fate.Fate.TheVariants.{Sure}
use Rattle.forecast.specs.declared.running.Running.TheInside.{Inside}
use Rattle.forecast.specs.Outlooks.{HasForeseen, OutlookState, foresees, latest_at}
use Rattle.forecast.specs.Prospects.{fate_of, is_sure}
use Rattle.forecast.specs.Stretches.{same_fate}
use Rattle.forecast.proofs.Stretches.{sure_count-next}
use Rattle.forecast.proofs.Foresight.{same_sure}
use Rattle.forecast.proofs.running.Running.take.Goals as goal
use Rattle.forecast.proofs.running.Running.take.Goals.{then-is, else-is}

pub invariant_of-self : goal.invariant_of-self
invariant_of-self c =
    let p = foresees c.self.inside.foresight in
    let t = c.self.inside.tally.played.packets in
    let kept = c.self.invariant in
    let new = c.if-is.self-inside in
    let foreseen = c.at-foreseen.ensures.foreseen in
    let fate : c.take-fate.result ≡ fate_of p t = c.take-fate.ensures.fate p foreseen kept.latest_is in
    let latest : c.take-fate.new.self ≡ latest_at p (t + 1) = c.take-fate.ensures.taken p foreseen kept.latest_is in
    let tally : c.count.new.self ≡ tally_of p.copies (t + 1) = c.count.ensures.counted ∙ (λ i. tally_with (kept.tally_is i) (foreseen.copies i)) ∙ sym (tally_next p.copies t) in
    let is : c.is.result ≡ is_sure p t = c.is.ensures ∙ (ap (λ (f : Fate). same_fate f Sure) fate ∙ same_sure p t) in
    let counted = λ (b : Bool). c.self.inside.sure + cond b 1 0 in
    let all : record new { sure = 0 } ≡ record { foresight = c.at-foreseen.new.self; latest = c.take-fate.new.self; stretch = c.self.inside.stretch; tally = c.count.new.self; sure = 0 } = elim c.if-is.branch [
      | then-is w ↦ ap (λ (r : Inside). record r { sure = 0 }) w.self-inside-is
      | else-is w ↦ ap (λ (r : Inside). record r { sure = 0 }) w.self-inside-is
    ] in
    let sure : (new.sure ≡ counted (is_sure p t)) × (new.sure ≤ t + 1) = elim c.if-is.branch [
      | then-is w ↦ let one = ap (λ (r : Inside). r.sure) w.self-inside-is in (one ∙ ap counted (sym w.if-is.true ∙ is), omega (arith, one, kept.few))
      | else-is w ↦ let none = ap (λ (r : Inside). r.sure) w.self-inside-is in (none ∙ (sym (add-zero c.self.inside.sure) ∙ ap counted (sym w.if-is.false ∙ is)), omega (arith, none, kept.few))
    ] in
    let outlook = ap (λ (r : Inside). r.foresight) all ∙ c.at-foreseen.ensures.same in
    let tally_is = ap (λ (r : Inside). r.tally) all ∙ tally in
    let packets : new.tally.played.packets ≡ t + 1 = ap (λ (l : Tally). l.played.packets) tally_is in
    subst (λ (o : OutlookState). HasForeseen (foresees o) new.tally.played.packets new.latest c.go_on.new.stretch new.tally new.sure) (sym outlook)
    (subst (λ (n : ℕ). HasForeseen p n new.latest c.go_on.new.stretch new.tally new.sure) (sym packets) (record {
      latest_is = ap (λ (r : Inside). r.latest) all ∙ latest;
      stretch_is = c.go_on.ensures.stretch (fate_of p) fate (ap (λ (r : Inside). r.stretch) all ∙ kept.stretch_is);
      tally_is = tally_is;
      sure_is = sure.0 ∙ (ap (λ (n : ℕ). n + cond (is_sure p t) 1 0) kept.sure_is ∙ sym (sure_count-next p t));
      few = sure.1;
      right = subst IsTally (sym (ap (λ (r : Inside). r.tally) all)) c.count.ensures.right;
    }))
