use Rattle.std.proofs.Common.{◌≡◌, Bool, List, length, replicate, sym, ap, ◌∙◌, false, true}
use Rattle.std.specs.Prelude.{Contains}
use Rattle.std.proofs.lemmas.Bool.{false≢true}
use Rattle.bit_vectors.specs.Reading.{bits_left, Read}
use Rattle.run_code.specs.Runs.{parse_vector}
use Rattle.std.proofs.lemmas.List.{length-replicate}
use Rattle.packet_decode.specs.State.{Change}
use Rattle.packet_decode.proofs.ExactChange.{no_one, nothing_comes, one_comes}
use Rattle.packet_decode.proofs.change.FirstPart.take_recent.Goals as goal

pub returns-then-not-self-clause-reading : goal.returns-then-not-self-clause-reading
returns-then-not-self-clause-reading c =
    let old : length c.self.inside.recent ≡ length c.args.self.now.recent = ap (λ (x : Change). length x.recent) c.self.view_is in
    let len : length c.clear.new.self ≡ length c.args.self.now.recent = ap length c.clear.ensures ∙ length-replicate (length c.self.inside.recent) false ∙ old in
    ap (λ n. parse_vector n (bits_left c.args.eye.now)) (sym len)
    ∙ nothing_comes c.clear.new.self (bits_left c.args.eye.now) (c.clear.ensures ∙ ap (λ n. replicate n false) (old ∙ sym len)) (c.comes_next.ensures.next.0 c.if-comes_next.true)
    ∙ ap (λ (b : List Bool). Read c.clear.new.self b) (sym c.pass.ensures.left)

pub returns-else-not-self-clause-reading : goal.returns-else-not-self-clause-reading
returns-else-not-self-clause-reading c =
    ap (λ (x : Change). parse_vector (length x.recent) (bits_left c.args.eye.now)) (sym c.self.view_is)
    ∙ nothing_comes c.self.inside.recent (bits_left c.args.eye.now) (c.self.invariant.2.0 c.if-not-self.false) (c.comes_next.ensures.next.0 c.if-comes_next.true)
    ∙ ap (λ (b : List Bool). Read c.self.inside.recent b) (sym c.pass.ensures.left)

pub invariant_of-self-in-Ok : goal.invariant_of-self-in-Ok
invariant_of-self-in-Ok c =
    let some : Contains c.take_runs.new.into true =
    one_comes c.take_runs.new.into (bits_left c.args.eye.now) (bits_left c.take_runs.new.eye) c.in-Ok.ensures.word
    (λ front. false≢true (sym c.if-comes_next.false ∙ c.comes_next.ensures.next.1 front)) in
    (c.self.invariant.0 ∙ sym c.take_runs.ensures.places, c.self.invariant.1, (λ none. absurd (false≢true none), λ zeros. absurd (no_one c.take_runs.new.into zeros some)), some, λ sent. absurd (false≢true sent))
