use Rattle.std.proofs.Common.{◌≡◌, ◌%◌, length, refl, ap, sym, ◌∙◌, subst}
use Rattle.bit_vectors.specs.Vectors.{vector_bytes}
use Rattle.desk_ports.specs.Courses.{to_output}
use Rattle.desk_ports.proofs.Steps.{Writes-is}
use Rattle.mask_update.specs.Histories.{History}
use Rattle.packet_encode.specs.Encoder.{StandsFor}
use Rattle.packet_encode.specs.Forms.{with_next_input}
use Rattle.packet_store.specs.SpacePackets.{period, space_packet}
use Rattle.packet_store.specs.StoreWriter.{WriterState}
use Rattle.flight_chain.specs.Compressing.{history_by, with_packet, data_at}
use Rattle.flight_chain.proofs.CompressCourses.{HasTaken-next, next_packet-is}
use Rattle.flight_chain.proofs.compressing.Compressing.put.Goals as goal

module _ (g : _) (c : goal.After-put g) (h : History) where
  -- the encoder took the packet that the schedule gives
  after_is : with_next_input h c.unwrap_or-robust.result c.args.self.now.input c.at-given.result.flags ≡ with_packet h c.args.self.now c.args.self.now.input c.args.t
  after_is =
      let robust = c.unwrap_or-robust.ensures ∙ rw c.at-given.ensures.robust refl in
      λ i. with_next_input h (robust i) c.args.self.now.input (c.at-given.ensures.flags i)

  -- the bytes that the pen has are those of the packet
  packet_is : StandsFor h c.args.self.now.encoder
      → space_packet c.args.self.now.writer.apid (c.from.result % period) c.bytes.result.now
      ≡ space_packet c.args.self.now.writer.apid (c.args.t % period) (data_at (with_packet h c.args.self.now c.args.self.now.input c.args.t) (length h.steps))
  packet_is stands =
      let bytes = c.bytes.ensures.bytes ∙ (ap vector_bytes (c.encode.ensures.bits h stands) ∙ ap (λ (after : History). data_at after (length h.steps)) after_is) in
      λ i. space_packet c.args.self.now.writer.apid (c.from.ensures i % period) (bytes i)

pub returns-clause-taken : goal.returns-clause-taken
returns-clause-taken g c = λ k inputs taken number.
    let h = history_by k inputs in
    let stands = subst (λ (after : History). StandsFor after c.encode.new.self) (after_is g c h) (c.encode.ensures.stands h taken.stands) in
    HasTaken-next k inputs c.args.self.now taken c.args.t (sym number) c.args.self.now.input _ stands c.encode.ensures.places refl (ap (λ (w : WriterState). w.apid) c.put.ensures.same) c.at-given.ensures.same

pub returns-clause-written : goal.returns-clause-written
returns-clause-written g c = λ k inputs taken number.
    let packet = packet_is g c (history_by k inputs) taken.stands ∙ next_packet-is k inputs c.args.self.now taken c.args.t (sym number) c.args.self.now.input in
    Writes-is (ap to_output packet) c.put.ensures.written
