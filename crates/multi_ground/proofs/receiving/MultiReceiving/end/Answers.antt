use Rattle.std.proofs.Common.{◌<◌, ◌≤◌, ◌+◌, ◌++◌, List, drop, length, refl, sym, ap, ◌∙◌, arith}
use Rattle.std.proofs.lemmas.List.{take_all}
use Rattle.desk_ports.specs.declared.desk.Outlet.TheVariants as outlet
use Rattle.desk_ports.specs.Courses.{to_report}
use Rattle.desk_ports.proofs.Steps.{Writes-cut-more, Writes-is, Writes-more, Writes-none, Writes-ok, Writes-ready}
use Rattle.side_tables.specs.declared.rows.StreamRow.{StreamRow}
use Rattle.ground_chain.specs.Reception.{Reckoning}
use Rattle.multi_ground.specs.MultiRun.{shape_count}
use Rattle.multi_ground.specs.MultiOutputs.{end_rows, shape_row, tagged}
use Rattle.multi_ground.proofs.StreamsApart.{end_of-kept, more_rows, rows_after}
use Rattle.multi_ground.proofs.receiving.MultiReceiving.end.Goals as goal

pub loop-index-init : goal.loop-index-init
loop-index-init g c = record { written = λ packets has. Writes-none; ready = c.requires.ready.outputs outlet.Report refl; steady = refl }

pub returns-in_err-write_tagged-clause-written : goal.returns-in_err-write_tagged-clause-written
returns-in_err-write_tagged-clause-written g c = λ packets has.
    let s = c.args.self.now in
    let index = c.loop-index.index in
    let within : index < length s.streams = omega (arith, c.loop-index-test.true, c.count-index-end.ensures.count) in
    let restored = c.restored.ensures ∙ ap (λ (r : Reckoning). r.restored) c.stream.ensures in
    let row = ap (tagged c.apid.result) c.end_row-row.ensures ∙ end_of-kept s packets index c.apid.result c.restored.result.now has within restored c.apid.ensures.apid in
    let rest = end_rows (drop (index + 1) s.streams) packets ++ shape_row (shape_count s.streams packets) in
    Writes-is (ap to_report (rows_after s.streams packets index within)) (Writes-cut-more _ outlet.Report _ rest c.from_residual.ensures.1 (Writes-more outlet.Report _ _ (c.loop-index.invariant.written packets has) (Writes-is (ap to_report row) c.in_err-write_tagged.ensures)))

pub loop-index-preserved : goal.loop-index-preserved
loop-index-preserved g c =
    let s = c.args.self.now in
    let index = c.loop-index.index in
    let wrote = c.in_ok-write_tagged.ensures in
    let within : index < length s.streams = omega (arith, c.loop-index-test.true, c.count-index-end.ensures.count) in
    let restored = c.restored.ensures ∙ ap (λ (r : Reckoning). r.restored) c.stream.ensures in
    record {
      written = λ packets has.
          let row = ap (tagged c.apid.result) c.end_row-row.ensures ∙ end_of-kept s packets index c.apid.result c.restored.result.now has within restored c.apid.ensures.apid in
          Writes-is (ap to_report (sym (more_rows s.streams packets index within))) (Writes-more outlet.Report _ _ (c.loop-index.invariant.written packets has) (Writes-is (ap to_report row) (Writes-ok wrote)));
      ready = Writes-ready outlet.Report wrote c.loop-index.invariant.ready;
      steady = wrote.cause ∙ c.loop-index.invariant.steady;
    }

pub returns-clause-written : goal.returns-clause-written
returns-clause-written g c = λ packets has.
    let s = c.args.self.now in
    let all : length s.streams ≤ c.loop-index.index = omega (arith, c.loop-index-test.false, c.count-index-end.ensures.count) in
    let every = Writes-is (ap (λ (l : List StreamRow). to_report (end_rows l packets)) (take_all c.loop-index.index s.streams all)) (c.loop-index.invariant.written packets has) in
    let row = c.as_bytes.ensures ∙ (c.shape_row.ensures ∙ ap shape_row has.shapes) in
    Writes-more outlet.Report _ _ every (Writes-is (ap to_report row) c.write_all.ensures)
