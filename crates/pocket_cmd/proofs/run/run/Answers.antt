use Rattle.std.proofs.Common.{◌≡◌, Err, inl, refl, subst}
use Rattle.desk_ports.specs.Meanings.{ReadFault, WriteFault}
use Rattle.pocket_cmd.specs.declared.run.Unopened.TheVariants as unopened
use Rattle.pocket_cmd.specs.Openings.{view_names, AfterOpening, HasOpeningCause}
use Rattle.pocket_cmd.specs.Status.{HasStatusCause, status_by}
use Rattle.pocket_cmd.proofs.run.run.Goals as goal

pub returns-in-Ok-clause-ran : goal.returns-in-Ok-clause-ran
returns-in-Ok-clause-ran g c =
    let opened = c.in-Ok.ensures.opened in
    c.run_opened.ensures.ran (g.D.Desk.meaning c.args.desk.now) (record { input = opened.0; kept = opened.1; is = opened.2 })

pub returns-in-Ok-clause-cause : goal.returns-in-Ok-clause-cause
returns-in-Ok-clause-cause g c =
    subst (λ counts. HasStatusCause counts (g.D.Desk.counts c.run_opened.new.desk) (status_by c.run_opened.result)) c.in-Ok.ensures.cause c.run_opened.ensures.cause

pub returns-in-Err-Input-clause-ran : goal.returns-in-Err-Input-clause-ran
returns-in-Err-Input-clause-ran g c =
    let is : c.open_all.result ≡ Err unopened.Input = search in
    record {
      ended = Err ReadFault;
      over = inl (subst (AfterOpening (view_names c.args.names.now) (g.D.Desk.meaning c.args.desk.now) (g.D.Desk.meaning c.open_all.new.desk)) is c.open_all.ensures.opened);
      answered = refl;
    }

pub returns-in-Err-Input-clause-cause : goal.returns-in-Err-Input-clause-cause
returns-in-Err-Input-clause-cause g c =
    let is : c.open_all.result ≡ Err unopened.Input = search in
    subst (HasOpeningCause (g.D.Desk.counts c.args.desk.now) (g.D.Desk.counts c.open_all.new.desk)) is c.open_all.ensures.cause

pub returns-in-Err-Output-clause-ran : goal.returns-in-Err-Output-clause-ran
returns-in-Err-Output-clause-ran g c =
    let is : c.open_all.result ≡ Err unopened.Output = search in
    let opened = subst (AfterOpening (view_names c.args.names.now) (g.D.Desk.meaning c.args.desk.now) (g.D.Desk.meaning c.open_all.new.desk)) is c.open_all.ensures.opened in
    record { ended = Err WriteFault; over = inl (record { input = opened.0; kept = opened.1; is = opened.2 }); answered = refl }

pub returns-in-Err-Output-clause-cause : goal.returns-in-Err-Output-clause-cause
returns-in-Err-Output-clause-cause g c =
    let is : c.open_all.result ≡ Err unopened.Output = search in
    subst (HasOpeningCause (g.D.Desk.counts c.args.desk.now) (g.D.Desk.counts c.open_all.new.desk)) is c.open_all.ensures.cause
