use Rattle.std.proofs.Common.{ap, ◌∙◌, sym, subst, List}
use Rattle.desk_ports.specs.Courses.{to_output}
use Rattle.packet_decode.specs.Answers.{IsExactAnswer}
use Rattle.packet_store.specs.Walks.{walk}
use Rattle.std.specs.Prelude.{Some}
use Rattle.ground_chain.specs.Run.{number_after, Judged, nothing_known}
use Rattle.ground_chain.specs.Report.{run_bytes, run_report}
use Rattle.ground_chain.specs.Listing.{run_listing}
use Rattle.ground_chain.specs.Restoring.{arrivals_of}
use Rattle.ground_chain.specs.Sound.{AreJudged, IsJudged}
use Rattle.ground_chain.proofs.DeliveredRuns.{owed-listed, owed-whole}
use Rattle.ground_chain.proofs.Sound.{AreJudged-run, AreJudged-only, judged_exact, judged_only}
use Rattle.ground_chain.proofs.refusals.commands_follow_the_exact_run.Goals as goal

pub returns-clause-arrive : goal.returns-clause-arrive
returns-clause-arrive c = λ f known arrival judged has. (
  λ is. judged_only f known has arrival.body judged (number_after known.latest arrival.count) is,
  λ same. subst (IsJudged IsExactAnswer f known arrival) (sym same) (judged_exact f known has arrival.body (number_after known.latest arrival.count)),
)

pub returns-clause-store : goal.returns-clause-store
returns-clause-store c = λ f apid store judged.
    let arrivals = arrivals_of (Some apid) (walk (Some apid) store).packets in (
      λ is. AreJudged-only f nothing_known (arrivals_of (Some apid) (walk (Some apid) store).packets) judged (record { mask = tt; content = tt }) is,
      λ same. subst (AreJudged IsExactAnswer f nothing_known (arrivals_of (Some apid) (walk (Some apid) store).packets)) (sym same) (AreJudged-run f nothing_known (arrivals_of (Some apid) (walk (Some apid) store).packets) (record { mask = tt; content = tt })),
    )

pub returns-clause-restore : goal.returns-clause-restore
returns-clause-restore c = λ f apid store judged whole is.
    let same = AreJudged-only f nothing_known (arrivals_of (Some apid) (walk (Some apid) store).packets) judged (record { mask = tt; content = tt }) is in
    owed-whole f apid store whole ∙ ap (λ (run : List Judged). record { output = run_bytes run; report = run_report run }) (sym same)

pub returns-clause-show : goal.returns-clause-show
returns-clause-show c = λ f apid store judged whole is.
    let same = AreJudged-only f nothing_known (arrivals_of (Some apid) (walk (Some apid) store).packets) judged (record { mask = tt; content = tt }) is in
    owed-listed f apid store whole ∙ ap (λ (run : List Judged). to_output (run_listing run)) (sym same)
