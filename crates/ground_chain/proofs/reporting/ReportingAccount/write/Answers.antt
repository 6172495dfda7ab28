use Rattle.std.proofs.Common.{false, ◌≡◌, true, ℕ, List, ◌++◌, append-nil, refl, sym, ap, ◌∙◌}
use Rattle.desk_ports.specs.declared.desk.Outlet.TheVariants as outlet
use Rattle.desk_ports.specs.Courses.{to_output, to_report}
use Rattle.desk_ports.proofs.Steps.{Writes-cut, Writes-err, Writes-is, Writes-ok, Writes-ready, Writes-then}
use Rattle.ground_chain.specs.declared.verdict.Verdict.{Verdict}
use Rattle.ground_chain.specs.Report.{is_written_kind, verdict_rows, written_bytes}
use Rattle.ground_chain.proofs.RestCourses.{content_written, no_content}
use Rattle.ground_chain.proofs.reporting.ReportingAccount.write.Goals as goal

pub write_rows-requires : goal.write_rows-requires
write_rows-requires g c = c.requires.ready.outputs outlet.Report refl

pub write_content-requires-clause-output : goal.write_content-requires-clause-output
write_content-requires-clause-output g c = Writes-ready outlet.Main c.in_ok-write_rows.ensures (c.requires.ready.outputs outlet.Main refl)

pub returns-in_err-write_rows-clause-written : goal.returns-in_err-write_rows-clause-written
returns-in_err-write_rows-clause-written g c = λ judged verdict shows.
    let rows = ap (λ (v : Verdict). to_report (verdict_rows v)) (sym verdict) in
    Writes-cut _ (to_output (written_bytes judged)) c.from_residual.ensures.1 (Writes-is rows c.in_err-write_rows.ensures)

pub returns-in_err-write_content-clause-written : goal.returns-in_err-write_content-clause-written
returns-in_err-write_content-clause-written g c = λ judged verdict shows.
    let rows = ap (λ (v : Verdict). to_report (verdict_rows v)) (sym verdict) in
    let kind : is_written_kind judged.verdict.kind ≡ true = ap (λ (v : Verdict). is_written_kind v.kind) verdict ∙ (sym c.is_written.ensures ∙ c.if-is_written.true) in
    let content = ap to_output (content_written judged c.args.decoder.now kind shows) in
    Writes-then (Writes-is rows c.in_ok-write_rows.ensures) (Writes-is content (Writes-err _ c.from_residual-in_err-write_content.ensures.1 c.in_err-write_content.ensures))

pub returns-else-is_written-clause-written : goal.returns-else-is_written-clause-written
returns-else-is_written-clause-written g c = λ judged verdict shows.
    let rows = ap (λ (v : Verdict). to_report (verdict_rows v)) (sym verdict) in
    let other : is_written_kind judged.verdict.kind ≡ false = ap (λ (v : Verdict). is_written_kind v.kind) verdict ∙ (sym c.is_written.ensures ∙ c.if-is_written.false) in
    let all = sym (append-nil (to_report (verdict_rows judged.verdict))) ∙ ap (λ (l : List ℕ). to_report (verdict_rows judged.verdict) ++ to_output l) (no_content judged other) in
    Writes-is (rows ∙ all) (Writes-ok c.in_ok-write_rows.ensures)

pub returns-in_ok-write_content-clause-written : goal.returns-in_ok-write_content-clause-written
returns-in_ok-write_content-clause-written g c = λ judged verdict shows.
    let rows = ap (λ (v : Verdict). to_report (verdict_rows v)) (sym verdict) in
    let kind : is_written_kind judged.verdict.kind ≡ true = ap (λ (v : Verdict). is_written_kind v.kind) verdict ∙ (sym c.is_written.ensures ∙ c.if-is_written.true) in
    let content = ap to_output (content_written judged c.args.decoder.now kind shows) in
    Writes-then (Writes-is rows c.in_ok-write_rows.ensures) (Writes-is content (Writes-ok c.in_ok-write_content.ensures))
