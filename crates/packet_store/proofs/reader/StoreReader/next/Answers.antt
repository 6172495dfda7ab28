use Rattle.std.proofs.Common.{◌≡◌, ◌+◌, ◌^◌, ◌<◌, true, Ok, refl, sym, ap, subst, ◌∙◌, arith}
use Rattle.std.proofs.lemmas.Result.{err_from_is_err_and}
use Rattle.desk_ports.specs.Meanings.{ReadsOn}
use Rattle.packet_store.specs.declared.fault.WalkFault.TheVariants as fault
use Rattle.packet_store.specs.StoreReader.{ReaderState, reader_state, TakesPacket, Stops, Waits, AfterFault}
use Rattle.packet_store.specs.declared.reader.Taken.{Taken}
use Rattle.packet_store.proofs.Reading.{AfterFault-unread, IsOver-read, Stops-too_many, TakesPacket-read, Waits-none}
use Rattle.packet_store.proofs.reader.StoreReader.next.Goals as goal

pub returns-in_err-hold-clause-fault : goal.returns-in_err-hold-clause-fault
returns-in_err-hold-clause-fault g c =
    let a = g.D.Desk.meaning c.args.desk.now in
    let b = g.D.Desk.meaning c.hold.new.desk in
    let inside = c.self.inside in
    let old = reader_state inside.chosen inside.taken inside.offset inside.live inside.held inside.input in
    let told = c.in_err-hold.ensures in
    let read = subst (λ l. ReadsOn l c.hold.new.self a b) c.pass.ensures told.read in
    let p = err_from_is_err_and c.from_residual.result c.from_residual.ensures.1 in
    rw (p.1, p.2) (subst (λ (s : ReaderState). Waits s c.hold.new.self a b) c.self.view_is (Waits-none old c.hold.new.self a b read told.cut))

pub returns-then-branch-clause-fault : goal.returns-then-branch-clause-fault
returns-then-branch-clause-fault g c =
    let a = g.D.Desk.meaning c.args.desk.now in
    let b = g.D.Desk.meaning c.hold.new.desk in
    let inside = c.self.inside in
    let old = reader_state inside.chosen inside.taken inside.offset inside.live inside.held inside.input in
    let told = c.in_ok-hold.ensures in
    let read = subst (λ l. ReadsOn l c.hold.new.self a b) c.pass.ensures told.read in
    subst (λ (s : ReaderState). Stops s c.hold.new.self a b fault.TooMany) c.self.view_is (Stops-too_many old c.hold.new.self a b c.if-self-eq-MOST_PACKETS.true read (told.held (ap Ok c.if-branch.true)))

pub returns-in_err-header-clause-fault : goal.returns-in_err-header-clause-fault
returns-in_err-header-clause-fault g c =
    let a = g.D.Desk.meaning c.args.desk.now in
    let b = g.D.Desk.meaning c.hold_packet.new.desk in
    let inside = c.self.inside in
    let input = c.hold_packet.new.input in
    let old = reader_state inside.chosen inside.taken inside.offset inside.live inside.held inside.input in
    let few : inside.taken < 2 ^ 32 = omega (arith, c.self.invariant.few, c.if-self-eq-MOST_PACKETS.false) in
    let read = subst (λ l. ReadsOn l input a b) c.pass.ensures c.in_err-header.ensures.read in
    let reason = c.in_err-header.field-0.0 in
    let p = err_from_is_err_and c.from_residual-in_err-header.result c.from_residual-in_err-header.ensures.1 in
    rw (p.1, p.2) (subst (λ (s : ReaderState). AfterFault s input a b reason) c.self.view_is (AfterFault-unread old input a b reason few read c.in_err-header.ensures.unread))

-- nothing is left
pub returns-in_default-clause-ahead : goal.returns-in_default-clause-ahead
returns-in_default-clause-ahead g c =
    let a = g.D.Desk.meaning c.args.desk.now in
    let b = g.D.Desk.meaning c.hold_packet.new.desk in
    let told = rw c.in_default.is at c.in_ok-header.ensures in
    ap (λ (s : ReaderState). s.ahead) (sym c.self.view_is) ∙ (sym c.pass.ensures ∙ (IsOver-read c.pass.new.self c.hold_packet.new.input a b told.read told.none told.at_end).none)

pub returns-in_default-clause-none : goal.returns-in_default-clause-none
returns-in_default-clause-none g c =
    let a = g.D.Desk.meaning c.args.desk.now in
    let b = g.D.Desk.meaning c.hold_packet.new.desk in
    let told = rw c.in_default.is at c.in_ok-header.ensures in
    (IsOver-read c.pass.new.self c.hold_packet.new.input a b told.read told.none told.at_end).moved

pub returns-in_default-clause-at_end : goal.returns-in_default-clause-at_end
returns-in_default-clause-at_end g c =
    let a = g.D.Desk.meaning c.args.desk.now in
    let b = g.D.Desk.meaning c.hold_packet.new.desk in
    let told = rw c.in_default.is at c.in_ok-header.ensures in
    (IsOver-read c.pass.new.self c.hold_packet.new.input a b told.read told.none told.at_end).at_end

pub returns-clause-some : goal.returns-clause-some
returns-clause-some g c =
    let a = g.D.Desk.meaning c.args.desk.now in
    let b = g.D.Desk.meaning c.hold_packet.new.desk in
    let inside = c.self.inside in
    let input = c.hold_packet.new.input in
    let old = reader_state inside.chosen inside.taken inside.offset inside.live inside.held inside.input in
    let told = rw c.in-Some.is at c.in_ok-header.ensures in
    let h = c.in-Some.header in
    let few : inside.taken < 2 ^ 32 = omega (arith, c.self.invariant.few, c.if-self-eq-MOST_PACKETS.false) in
    let live : inside.live ≡ true = ap (λ (s : ReaderState). s.live) c.self.view_is ∙ c.requires.live in
    let size : h.length + 7 ≡ 6 + c.size.result = omega (arith, c.size.ensures) in
    let read = subst (λ l. ReadsOn l input a b) c.pass.ensures told.read in
    let given : Taken = record { chosen = c.is_chosen.result; count = h.count } in
    let new = reader_state inside.chosen (inside.taken + 1) (inside.offset + (6 + c.size.result)) true (6 + c.size.result) input in
    subst (λ (s : ReaderState). TakesPacket s new a b given) c.self.view_is (TakesPacket-read old h (6 + c.size.result) input given a b live few size told.good told.header read c.is_chosen.ensures refl)
