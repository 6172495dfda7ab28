use Rattle.std.proofs.Common.{ℕ, List, ◌++◌, ◌%◌, ◌≡◌, true, append-nil, refl, sym, ap, ◌∙◌}
use Rattle.bit_vectors.specs.Vectors.{vector_bytes}
use Rattle.desk_ports.specs.declared.desk.Outlet.TheVariants as outlet
use Rattle.desk_ports.specs.Courses.{to_output, to_report}
use Rattle.desk_ports.proofs.Steps.{Writes-cut, Writes-err, Writes-is, Writes-ok, Writes-ready, Writes-then}
use Rattle.packet_decode.specs.State.{latest_content}
use Rattle.packet_store.specs.SpacePackets.{period, space_packet}
use Rattle.ground_chain.specs.declared.verdict.Verdict.{Verdict}
use Rattle.ground_chain.specs.Report.{is_written_kind, lost_row, own_row}
use Rattle.ground_chain.proofs.RestCourses.{content_written}
use Rattle.multi_ground.specs.MultiRun.{StreamJudged}
use Rattle.multi_ground.specs.MultiOutputs.{tagged, tagged_rows, written_packet}
use Rattle.multi_ground.proofs.RowsApart.{no_packet, one_packet, one_arrival}
use Rattle.multi_ground.proofs.writing.write_arrival.Goals as goal

pub write_rows-requires : goal.write_rows-requires
write_rows-requires g c = c.requires.ready.outputs outlet.Report refl

pub write_packet-requires-clause-output : goal.write_packet-requires-clause-output
write_packet-requires-clause-output g c = Writes-ready outlet.Main c.in_ok-write_rows.ensures (c.requires.ready.outputs outlet.Main refl)

pub returns-in_err-write_rows-clause-written : goal.returns-in_err-write_rows-clause-written
returns-in_err-write_rows-clause-written g c = λ judged verdict shows.
    let j : StreamJudged = record { apid = c.args.apid; judged = judged } in
    let rows = ap (λ (v : Verdict). to_report (tagged c.args.apid (lost_row v.lost) ++ tagged c.args.apid (own_row v.t v.kind))) (sym verdict) in
    one_arrival j (Writes-cut _ (to_output (written_packet j)) c.from_residual.ensures.1 (Writes-is rows c.in_err-write_rows.ensures))

pub returns-in_err-write_packet-clause-written : goal.returns-in_err-write_packet-clause-written
returns-in_err-write_packet-clause-written g c = λ judged verdict shows.
    let j : StreamJudged = record { apid = c.args.apid; judged = judged } in
    let rows = ap (λ (v : Verdict). to_report (tagged c.args.apid (lost_row v.lost) ++ tagged c.args.apid (own_row v.t v.kind))) (sym verdict) in
    let kind : is_written_kind judged.verdict.kind ≡ true = ap (λ (v : Verdict). is_written_kind v.kind) verdict ∙ (sym c.is_written.ensures ∙ c.if-is_written.true) in
    let bytes = vector_bytes (latest_content c.args.decoder.now.places c.args.decoder.now.state) in
    let packet = ap (λ (v : Verdict). space_packet c.args.apid (v.t % period) bytes) (sym verdict) ∙ one_packet j bytes kind (content_written judged c.args.decoder.now kind shows) in
    one_arrival j (Writes-then (Writes-is rows c.in_ok-write_rows.ensures) (Writes-is (ap to_output packet) (Writes-err _ c.from_residual-in_err-write_packet.ensures.1 c.in_err-write_packet.ensures)))

pub returns-else-is_written-clause-written : goal.returns-else-is_written-clause-written
returns-else-is_written-clause-written g c = λ judged verdict shows.
    let j : StreamJudged = record { apid = c.args.apid; judged = judged } in
    let rows = ap (λ (v : Verdict). to_report (tagged c.args.apid (lost_row v.lost) ++ tagged c.args.apid (own_row v.t v.kind))) (sym verdict) in
    let none = no_packet j (ap (λ (v : Verdict). is_written_kind v.kind) verdict ∙ (sym c.is_written.ensures ∙ c.if-is_written.false)) in
    let all = sym (append-nil (to_report (tagged_rows j))) ∙ ap (λ (l : List ℕ). to_report (tagged_rows j) ++ to_output l) none in
    one_arrival j (Writes-is (rows ∙ all) (Writes-ok c.in_ok-write_rows.ensures))

pub returns-in_ok-write_packet-clause-written : goal.returns-in_ok-write_packet-clause-written
returns-in_ok-write_packet-clause-written g c = λ judged verdict shows.
    let j : StreamJudged = record { apid = c.args.apid; judged = judged } in
    let rows = ap (λ (v : Verdict). to_report (tagged c.args.apid (lost_row v.lost) ++ tagged c.args.apid (own_row v.t v.kind))) (sym verdict) in
    let kind : is_written_kind judged.verdict.kind ≡ true = ap (λ (v : Verdict). is_written_kind v.kind) verdict ∙ (sym c.is_written.ensures ∙ c.if-is_written.true) in
    let bytes = vector_bytes (latest_content c.args.decoder.now.places c.args.decoder.now.state) in
    let packet = ap (λ (v : Verdict). space_packet c.args.apid (v.t % period) bytes) (sym verdict) ∙ one_packet j bytes kind (content_written judged c.args.decoder.now kind shows) in
    one_arrival j (Writes-then (Writes-is rows c.in_ok-write_rows.ensures) (Writes-is (ap to_output packet) (Writes-ok c.in_ok-write_packet.ensures)))
