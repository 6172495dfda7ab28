use Rattle.std.proofs.Common.{◌≡◌, ◌∙◌, Err, sym, ap, subst}
use Rattle.desk_ports.specs.declared.desk.Inlet.TheVariants as inlet
use Rattle.pocket_cmd.specs.declared.text.TextFault.TheVariants as unread
use Rattle.pocket_cmd.specs.Command.{Names, view_command, names_of}
use Rattle.pocket_cmd.specs.Openings.{IsText, IsTextLong, with_text}
use Rattle.pocket_cmd.specs.Outcome.{AfterText, IsAnswered}
use Rattle.pocket_cmd.proofs.Performed.{AfterCommand-read, IsAnswered-unread}
use Rattle.pocket_cmd.proofs.work.perform.Goals as goal

pub returns-in-Err-clause-ends : goal.returns-in-Err-clause-ends
returns-in-Err-clause-ends g c =
    let command = view_command c.args.command.now in
    let old = g.D.Desk.meaning c.args.desk.now in
    let counts = g.D.Desk.counts c.args.desk.now in
    let after = g.D.Desk.counts c.text_at.new.desk in
    let long : c.in-Err.fault ≡ unread.TooLong → IsTextLong old inlet.Side _ = λ e. subst (λ (names : Names). IsTextLong old inlet.Side names.side) c.names.ensures (c.in-Err.ensures.long (ap Err e)) in
    subst (λ r. IsAnswered command old counts after (Err r)) (sym c.unread.ensures) (IsAnswered-unread command old counts after c.in-Err.fault long c.in-Err.ensures.cause)

pub returns-in-Ok-clause-after : goal.returns-in-Ok-clause-after
returns-in-Ok-clause-after g c =
    let command = view_command c.args.command.now in
    let old = g.D.Desk.meaning c.args.desk.now in
    let new = g.D.Desk.meaning c.perform_with.new.desk in
    let side = ap (λ (names : Names). names.side) c.names.ensures in
    let read : g.D.Desk.meaning c.text_at.new.desk ≡ with_text old inlet.Side (names_of command).side = c.in-Ok.ensures.read ∙ ap (with_text old inlet.Side) side in
    AfterCommand-read command old new c.in-Ok.text.bytes.items c.perform_with.result
    (subst (λ name. IsText old inlet.Side name c.in-Ok.text.bytes.items) side c.in-Ok.ensures.text)
    c.in-Ok.text.within
    (subst (λ m. AfterText command c.in-Ok.text.bytes.items m new c.perform_with.result) read c.perform_with.ensures.after)
