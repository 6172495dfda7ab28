use Rattle.std.proofs.Common.{refl, ap, sym, subst}
use Rattle.std.specs.Prelude.{IsSome}
use Rattle.std.specs.Option.{is_some}
use Rattle.std.proofs.lemmas.Option.{same_Some}
use Rattle.packet_decode.specs.State.{in_reach}
use Rattle.packet_decode.specs.Parts.{part_by}
use Rattle.packet_decode.proofs.RepeatedPacket.{read_again}
use Rattle.packet_decode.proofs.decoder.repeats.Goals as goal

pub returns-clause-when : goal.returns-clause-when
returns-clause-when c = λ level.
    let number = c.args.latest.now.content_number in
    let at = c.in_ok-level.ensures level in
    ((λ is. (at.0 is, subst (λ n. IsSome (in_reach (part_by number c.args.latest.now.content) c.args.t n)) (same_Some c.in_ok-level.level level is) (ap is_some (sym c.in_ok-in_reach_of.ensures)))), (λ both. at.1 both.0))

pub returns-clause-read : goal.returns-clause-read
returns-clause-read c =
    let at = (c.in_ok-level.ensures c.in_ok-level.level).0 refl in
    read_again c.args.latest.now c.args.shown.now c.args.remembered.now c.requires.latest.vectors (c.requires.remembered at.some) c.args.t c.in_ok-level.level (ap is_some (sym c.in_ok-in_reach_of.ensures)) c.args.bytes.now at
