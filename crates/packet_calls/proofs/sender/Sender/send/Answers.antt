use Rattle.packet_calls.specs.declared.fault.SendFault.TheVariants.{Robust, NoRoom, TooMany}
use Rattle.std.proofs.Common.{rules, Some, None, ◌≡◌, ℕ, Bool, List, ◌++◌, length, take, drop, ap, sym, ◌∙◌, subst}
use Rattle.std.proofs.lemmas.List.{take_at}
use Rattle.bit_vectors.specs.Vectors.{vector_bytes}
use Rattle.packet_encode.specs.Encoder.{StandsFor}
use Rattle.packet_encode.specs.Forms.{with_next_input}
use Rattle.flight_chain.specs.Compressing.{data_at}
use Rattle.packet_calls.specs.Sending.{SenderState, vector_in}
use Rattle.packet_calls.proofs.Refused.{fault_after, sending_fault-input}
use Rattle.packet_calls.proofs.sender.Sender.send.Goals as goal

pub returns-clause-packet : goal.returns-clause-packet
returns-clause-packet c = λ h stands.
    let at_encoder : StandsFor h c.self.inside.encoder = subst (λ (s : SenderState). StandsFor h s.encoder) (sym c.self.view_is) stands in
    let bytes : c.bytes-bytes.result.now ≡ data_at (with_next_input h c.args.robust c.load.new.self c.args.flags) (length h.steps) = c.bytes-bytes.ensures.bytes ∙ ap vector_bytes (c.encode.ensures.bits h at_encoder) in
    let copied = c.copy_from_slice.ensures.after in
    let front : take (length c.bytes-bytes.result.now) (c.copy_from_slice.new.self ++ drop (length c.bytes-bytes.result.now) c.args.out.now) ≡ c.bytes-bytes.result.now =
    take_at c.copy_from_slice.new.self (drop (length c.bytes-bytes.result.now) c.args.out.now) (length c.bytes-bytes.result.now) (ap (λ (l : List ℕ). length l) copied) ∙ copied in
    let input : c.load.new.self ≡ vector_in (length c.args.self.now.encoder.masks.mask) c.args.input.now = search rules in
    front ∙ (bytes ∙ ap (λ (v : List Bool). data_at (with_next_input h c.args.robust v c.args.flags) (length h.steps)) input)

pub returns-then-robust-gt-MOST_ROBUST-clause-fault : goal.returns-then-robust-gt-MOST_ROBUST-clause-fault
returns-then-robust-gt-MOST_ROBUST-clause-fault c =
    let rest : Some Robust ≡ fault_after c.args.self.now c.args.robust (length c.args.out.now) = search rules in
    rest ∙ sending_fault-input c.args.self.now c.args.input.now c.args.robust (length c.args.out.now) (search rules) (search rules)

pub returns-then-out-packet_room-clause-fault : goal.returns-then-out-packet_room-clause-fault
returns-then-out-packet_room-clause-fault c =
    let rest : Some NoRoom ≡ fault_after c.args.self.now c.args.robust (length c.args.out.now) = search rules in
    rest ∙ sending_fault-input c.args.self.now c.args.input.now c.args.robust (length c.args.out.now) (search rules) (search rules)

pub returns-then-taken-ge-MOST_PACKETS-clause-fault : goal.returns-then-taken-ge-MOST_PACKETS-clause-fault
returns-then-taken-ge-MOST_PACKETS-clause-fault c =
    let rest : Some TooMany ≡ fault_after c.args.self.now c.args.robust (length c.args.out.now) = search rules in
    rest ∙ sending_fault-input c.args.self.now c.args.input.now c.args.robust (length c.args.out.now) (search rules) (search rules)

pub returns-clause-fault : goal.returns-clause-fault
returns-clause-fault c =
    let rest : None ≡ fault_after c.args.self.now c.args.robust (length c.args.out.now) = search rules in
    rest ∙ sending_fault-input c.args.self.now c.args.input.now c.args.robust (length c.args.out.now) (search rules) (search rules)
