use Rattle.std.proofs.Common.{◌≡◌, ◌+◌, Bool, List, false, length, replicate, ap, sym, ◌∙◌, subst, arith}
use Rattle.std.specs.Bool.{OnTrue}
use Rattle.std.proofs.lemmas.Bool.{OnTrue_from}
use Rattle.bit_vectors.specs.Vectors.{xor_bits}
use Rattle.mask_update.specs.Masks.{Advances, Running, StandsFor, next_mask}
use Rattle.mask_update.specs.Histories.{with_step}
use Rattle.mask_update.proofs.Standing.{StandsFor-first, StandsFor-next, stays}
use Rattle.mask_update.proofs.masks.Masks.step.Goals as goal
use Rattle.mask_update.proofs.masks.Masks.step.Goals.{then-self-gt0, else-self-gt0}

pub returns-clause-stands : goal.returns-clause-stands
returns-clause-stands c = λ h s stands input new_mask.
    elim c.if-self-gt0.branch [
      | then-self-gt0 w ↦
          let len = ap (λ (v : Running). length v.previous) (sym c.self.view_is) ∙ c.self.invariant.previous_len ∙ ap (λ (v : Running). length v.mask) c.self.view_is in
          let next = subst (λ (b : Bool). Advances s.input b c.args.self.now w.advance-again.new.self) (sym new_mask)
          (subst (λ (v : List Bool). Advances v c.args.new_mask c.args.self.now w.advance-again.new.self) (sym input) w.advance-again.ensures.next) in
          let same = c.self-2.view_is ∙ w.self-is in
          subst (StandsFor (with_step h s)) (sym (λ i. record (same i) { again = w.again-is i; taken = (same i).taken + 1 }))
          (StandsFor-next h s c.args.self.now w.advance-again.new.self w.advance-again.result stands (omega (arith, w.if-self-gt0.true, ap (λ (v : Running). v.taken) c.self.view_is)) len (ap length input ∙ c.requires.places) next (
            λ told. let comes = w.advance-again.ensures.again.0 told in (new_mask ∙ comes.0, comes.1 ∙ sym input),
            λ comes. w.advance-again.ensures.again.1 (sym new_mask ∙ comes.0, comes.1 ∙ input),
          ))
      | else-self-gt0 w ↦
          let start : c.args.self.now.taken ≡ 0 = omega (arith, w.if-self-gt0.false, ap (λ (v : Running). v.taken) c.self.view_is) in
          let one : c.args.self.now.taken + 1 ≡ 1 = omega (arith, start) in
          let same = c.self-2.view_is ∙ w.self-is ∙ w.clear_change.ensures
          ∙ (λ i. record (c.self.view_is i) { previous = (w.copy_from.ensures ∙ sym input) i; change = replicate (length (c.self.view_is i).mask) false }) in
          subst (StandsFor (with_step h s)) (sym (λ i. record (same i) { again = w.again-is i; taken = ((λ j. (same j).taken + 1) ∙ one) i })) (StandsFor-first h s c.args.self.now stands start)
    ]

pub returns-clause-kept : goal.returns-clause-kept
returns-clause-kept c =
    elim c.if-self-gt0.branch [
      | then-self-gt0 w ↦
          let same = c.self-2.view_is ∙ w.self-is in
          subst (λ b. OnTrue b (c.self-2.inside.mask ≡ c.args.self.now.mask)) (sym w.again-is)
          (OnTrue_from w.advance-again.result _ (λ again.
          let is = w.advance-again.ensures.again.0 again in
          ap (λ (v : Running). v.mask) same ∙ w.advance-again.ensures.next.mask
          ∙ ap (λ b. next_mask b (xor_bits c.args.self.now.previous c.args.input.now) c.args.self.now.build c.args.self.now.mask) is.0
          ∙ sym (stays c.args.self.now.mask c.args.self.now.previous c.args.input.now is.1 (sym c.requires.places))))
      | else-self-gt0 w ↦ subst (λ b. OnTrue b (c.self-2.inside.mask ≡ c.args.self.now.mask)) (sym w.again-is) tt
    ]
