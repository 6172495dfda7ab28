use Rattle.std.proofs.Common.{◌≡◌, ℕ, ◌+◌, Bool, cond, Option, Some, sym, ap, ◌∙◌}
use Rattle.forecast.specs.declared.latest.LatestSure.{LatestSure}
use Rattle.forecast.specs.Prospects.{is_mask_sure, is_sure, latest_mask_sure, latest_sure}
use Rattle.forecast.proofs.Foresight.{latest_mask-next, latest_sure-next}
use Rattle.forecast.proofs.latest.LatestSure.take.Goals as goal

-- a latest number with one more, by what is sure
later : (t : ℕ) (given is : Bool) (before latest : Option ℕ) → given ≡ is → before ≡ latest → cond given (Some t) before ≡ cond is (Some t) latest
later t given is before latest same kept = (λ i. cond (same i) (Some t) (kept i))

pub returns-clause-taken : goal.returns-clause-taken
returns-clause-taken c = λ p foreseen was.
    let t = c.args.t in
    let mask : c.later-self.result ≡ latest_mask_sure p (t + 1) = c.later-self.ensures
    ∙ (later t c.surety-sure.result.mask (is_mask_sure p t) c.args.self.now.mask (latest_mask_sure p t) (c.surety-sure.ensures.mask p foreseen was) (ap (λ (l : LatestSure). l.mask) was)
    ∙ sym (latest_mask-next p t)) in
    let packet : c.later-self-2.result ≡ latest_sure p (t + 1) = c.later-self-2.ensures
    ∙ (later t c.surety-sure.result.packet (is_sure p t) c.args.self.now.packet (latest_sure p t) (c.surety-sure.ensures.packet p foreseen was) (ap (λ (l : LatestSure). l.packet) was)
    ∙ sym (latest_sure-next p t)) in
    λ i. record { mask = mask i; packet = packet i }
