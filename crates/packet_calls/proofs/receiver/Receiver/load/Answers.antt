use Rattle.std.proofs.Common.{Err, refl, sym, ap, subst, ◌∙◌}
use Rattle.std.proofs.lemmas.Bool.{false≢true}
use Rattle.ground_chain.specs.Reception.{Reckoning}
use Rattle.ground_chain.specs.Saved.{IsReckoning}
use Rattle.packet_calls.specs.States.{receiver_state}
use Rattle.packet_calls.proofs.Received.{body_is, frame_of, not_other, of_body, to_body}
use Rattle.packet_calls.proofs.receiver.Receiver.load.Goals as goal

pub returns-in-Err-NoState-clause-exact : goal.returns-in-Err-NoState-clause-exact
returns-in-Err-NoState-clause-exact c =
    (λ e. absurd cc, λ saved. absurd (c.in-Err-NoState.ensures.none (ap (λ e. Err e) c.in-Err-NoState.field-0-is) _ _ _ (frame_of _ saved.receiver c.args.state.now saved.valid saved.state_is)))

pub returns-in-Err-NoState-clause-same : goal.returns-in-Err-NoState-clause-same
returns-in-Err-NoState-clause-same c r valid is = absurd (c.in-Err-NoState.ensures.none (ap (λ e. Err e) c.in-Err-NoState.field-0-is) _ _ _ (frame_of _ r c.args.state.now valid is))

pub returns-in-Err-OtherState-clause-exact : goal.returns-in-Err-OtherState-clause-exact
returns-in-Err-OtherState-clause-exact c =
    let other = rw c.places-places.ensures.places at c.in-Err-OtherState.ensures.other (ap (λ e. Err e) c.in-Err-OtherState.field-0-is) in
    (λ e. absurd cc, λ saved. absurd (not_other _ _ c.args.state.now _ (frame_of _ saved.receiver c.args.state.now saved.valid saved.state_is) other))

pub returns-in-Err-OtherState-clause-same : goal.returns-in-Err-OtherState-clause-same
returns-in-Err-OtherState-clause-same c r valid is =
    let other = rw c.places-places.ensures.places at c.in-Err-OtherState.ensures.other (ap (λ e. Err e) c.in-Err-OtherState.field-0-is) in
    absurd (not_other _ _ c.args.state.now _ (frame_of _ r c.args.state.now valid is) other)

pub returns-then-not-is_saved-clause-exact : goal.returns-then-not-is_saved-clause-exact
returns-then-not-is_saved-clause-exact c =
    let framed = rw c.places-places.ensures.places at c.in-Ok.ensures.body in
    let judged = rw c.places-places.ensures.places at c.is_saved.ensures.1 in
    (λ e. absurd cc, λ saved. absurd (false≢true (sym c.if-not-is_saved.true ∙ judged (to_body _ c.args.state.now c.in-Ok.body.now framed saved))))

pub returns-then-not-is_saved-clause-same : goal.returns-then-not-is_saved-clause-same
returns-then-not-is_saved-clause-same c r valid is =
    let framed = rw c.places-places.ensures.places at c.in-Ok.ensures.body in
    let judged = rw c.places-places.ensures.places at c.is_saved.ensures.1 in
    absurd (false≢true (sym c.if-not-is_saved.true ∙ judged (to_body _ c.args.state.now c.in-Ok.body.now framed (record { receiver = r; valid = valid; state_is = is }))))

pub returns-then-not-is_saved-clause-other : goal.returns-then-not-is_saved-clause-other
returns-then-not-is_saved-clause-other c =
    let framed = rw c.places-places.ensures.places at c.in-Ok.ensures.body in
    (λ e. absurd cc, λ other. absurd (not_other _ _ c.args.state.now c.in-Ok.body.now framed other))

pub returns-else-not-is_saved-clause-exact : goal.returns-else-not-is_saved-clause-exact
returns-else-not-is_saved-clause-exact c =
    let framed = rw c.places-places.ensures.places at c.in-Ok.ensures.body in
    let judged = rw c.places-places.ensures.places at c.is_saved.ensures.0 c.if-not-is_saved.false in
    (λ e. of_body _ c.args.state.now c.in-Ok.body.now framed judged, λ saved. refl)

pub returns-else-not-is_saved-clause-same : goal.returns-else-not-is_saved-clause-same
returns-else-not-is_saved-clause-same c r valid is =
    let framed = rw c.places-places.ensures.places at c.in-Ok.ensures.body in
    c.load.ensures r (subst (λ (s : Reckoning). IsReckoning s.reception.decoder.places r) (sym c.self.view_is) valid) (body_is _ r c.args.state.now c.in-Ok.body.now framed valid is)

pub returns-else-not-is_saved-clause-loaded : goal.returns-else-not-is_saved-clause-loaded
returns-else-not-is_saved-clause-loaded c =
    let saved = (returns-else-not-is_saved-clause-exact c).0 refl in
    ap receiver_state (returns-else-not-is_saved-clause-same c saved.receiver saved.valid saved.state_is) ∙ sym saved.state_is

pub returns-else-not-is_saved-clause-other : goal.returns-else-not-is_saved-clause-other
returns-else-not-is_saved-clause-other c =
    let framed = rw c.places-places.ensures.places at c.in-Ok.ensures.body in
    (λ e. absurd cc, λ other. absurd (not_other _ _ c.args.state.now c.in-Ok.body.now framed other))
