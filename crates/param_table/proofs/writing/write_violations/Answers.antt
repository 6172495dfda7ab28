use Rattle.std.proofs.Common.{◌≤◌, ℕ, Bool, List, ◌+◌, ◌++◌, length, drop, refl, sym, ap, ◌∙◌, arith}
use Rattle.std.specs.Option.{option_to_list}
use Rattle.std.proofs.lemmas.List.{take_all}
use Rattle.desk_ports.specs.declared.desk.Outlet.TheVariants as outlet
use Rattle.desk_ports.specs.Courses.{to_report}
use Rattle.desk_ports.proofs.Steps.{Writes-cut-more, Writes-is, Writes-more, Writes-none, Writes-ok, Writes-ready}
use Rattle.param_table.specs.declared.rows.Column.{Column}
use Rattle.param_table.specs.Texts.{packet_violations, violation_of, violation_rows}
use Rattle.param_table.proofs.TableCourses.{rows-more, rows-split, count-more, count-some, count-none}
use Rattle.param_table.proofs.writing.write_violations.Goals as goal
use Rattle.param_table.proofs.writing.write_violations.Goals.{then-branch, else-branch}

pub returns-in_err-write_violation-clause-written : goal.returns-in_err-write_violation-clause-written
returns-in_err-write_violation-clause-written g c =
    let packet : ℕ × List Bool = (c.args.t, c.args.packet.now) in
    let columns = c.args.columns.now in
    let i = c.loop-column.column-index in
    let rest = violation_rows (packet_violations (drop (i + 1) columns) packet) in
    let item = ap (λ (column : Column). to_report (violation_rows (option_to_list (violation_of packet column)))) c.column-item.is in
    let all = ap (λ (l : List ℕ). l ++ rest) (sym (rows-more packet columns i c.column-item.result c.loop-column-test.true)) ∙ sym (rows-split packet columns (i + 1)) in
    Writes-is (ap to_report all) (Writes-cut-more _ outlet.Report _ rest c.from_residual.ensures.1 (Writes-more outlet.Report _ _ c.loop-column.invariant.written (Writes-is item c.in_err-write_violation.ensures.written)))

pub returns-clause-written : goal.returns-clause-written
returns-clause-written g c =
    let packet : ℕ × List Bool = (c.args.t, c.args.packet.now) in
    let last : length c.args.columns.now ≤ c.loop-column.column-index = omega arith in
    Writes-ok (Writes-is (ap (λ (l : List Column). to_report (violation_rows (packet_violations l packet))) (take_all c.loop-column.column-index c.args.columns.now last)) c.loop-column.invariant.written)

pub loop-column-init : goal.loop-column-init
loop-column-init g c = record { written = Writes-none; ready = c.requires.report; found = refl; few = omega arith }

pub loop-column-preserved : goal.loop-column-preserved
loop-column-preserved g c =
    let packet : ℕ × List Bool = (c.args.t, c.args.packet.now) in
    let columns = c.args.columns.now in
    let i = c.loop-column.column-index in
    let inv = c.loop-column.invariant in
    let wrote = c.in_ok-write_violation.ensures in
    let item = ap (λ (column : Column). to_report (violation_rows (option_to_list (violation_of packet column)))) c.column-item.is in
    let of_item = ap (λ (column : Column). length (option_to_list (violation_of packet column))) c.column-item.is in
    record {
      written = Writes-is (ap to_report (sym (rows-more packet columns i c.column-item.result c.loop-column-test.true))) (Writes-more outlet.Report _ _ inv.written (Writes-is item (Writes-ok wrote.written)));
      ready = Writes-ready outlet.Report wrote.written inv.ready;
      found = elim c.if-branch.branch [
        | then-branch w ↦
            let one = count-some (violation_of packet c.column-item.result) _ wrote.found w.if-branch.true in
            count-more packet columns i c.column-item.result c.loop-column.found c.if-branch.found c.loop-column-test.true inv.found (omega (arith, w.found-is, one, of_item))
        | else-branch w ↦
            let none = count-none (violation_of packet c.column-item.result) _ wrote.found w.if-branch.false in
            count-more packet columns i c.column-item.result c.loop-column.found c.if-branch.found c.loop-column-test.true inv.found (omega (arith, w.found-is, none, of_item))
      ];
      few = elim c.if-branch.branch [
        | then-branch w ↦ omega (arith, w.found-is, inv.few)
        | else-branch w ↦ omega (arith, w.found-is, inv.few)
      ];
    }
