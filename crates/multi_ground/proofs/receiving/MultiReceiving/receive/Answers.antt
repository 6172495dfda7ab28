use Rattle.std.proofs.Common.{◌≡◌, ◌<◌, length, Some, None, false, true, not, take, ap, sym, ◌∙◌, subst}
use Rattle.packet_store.specs.declared.header.Header.{Header}
use Rattle.packet_store.specs.SpacePackets.{header_of}
use Rattle.side_tables.specs.Streams.{stream_at, stream_of}
use Rattle.multi_ground.specs.MultiRun.{has_shape}
use Rattle.multi_ground.specs.Receiving.{JudgesOne}
use Rattle.multi_ground.proofs.Received.{header-first, received-arrival, received-shape, received-unlisted}
use Rattle.multi_ground.proofs.receiving.MultiReceiving.receive.Goals as goal

pub returns-in_default-clause-received : goal.returns-in_default-clause-received
returns-in_default-clause-received g c = λ p packets read has.
    let s = c.args.self.now in
    let h = c.first_header-header.result in
    let spelled : take 6 s.reader.packet ≡ header_of h = ap (take 6) (sym c.packet.ensures) ∙ c.first_header-header.ensures.spelled in
    let same = header-first h p s.reader.packet c.first_header-header.ensures.fields read.good.fields read.packet spelled in
    let none : stream_of s.streams h.apid ≡ None = sym c.find.ensures.index ∙ c.in_default.is in
    received-unlisted s packets p (ap (λ (k : Header). stream_of s.streams k.apid) (sym same) ∙ none) has

pub returns-then-is_misshapen-clause-received : goal.returns-then-is_misshapen-clause-received
returns-then-is_misshapen-clause-received g c = λ p packets read has.
    let s = c.args.self.now in
    let h = c.first_header-header.result in
    let spelled : take 6 s.reader.packet ≡ header_of h = ap (take 6) (sym c.packet.ensures) ∙ c.first_header-header.ensures.spelled in
    let same = header-first h p s.reader.packet c.first_header-header.ensures.fields read.good.fields read.packet spelled in
    let is : stream_of s.streams h.apid ≡ Some c.in-Some.index = sym c.find.ensures.index ∙ c.in-Some.is in
    let other : has_shape h ≡ false = ap not (sym c.is_misshapen.ensures ∙ c.if-is_misshapen.true) in
    received-shape s packets p c.in-Some.index (ap (λ (k : Header). stream_of s.streams k.apid) (sym same) ∙ is) (ap has_shape (sym same) ∙ other) has

pub returns-clause-received : goal.returns-clause-received
returns-clause-received g c = λ p packets read has.
    let s = c.args.self.now in
    let t = c.arrive.new.self in
    let h = c.first_header-header.result in
    let index = c.in-Some.index in
    let spelled : take 6 s.reader.packet ≡ header_of h = ap (take 6) (sym c.packet.ensures) ∙ c.first_header-header.ensures.spelled in
    let same = header-first h p s.reader.packet c.first_header-header.ensures.fields read.good.fields read.packet spelled in
    let is : stream_of s.streams h.apid ≡ Some index = sym c.find.ensures.index ∙ c.in-Some.is in
    let shape : has_shape h ≡ true = ap not (sym c.is_misshapen.ensures ∙ c.if-is_misshapen.false) in
    let within : index < length s.streams = c.in-Some.ensures.within in
    let own : (stream_at s.streams index).apid ≡ h.apid = c.in-Some.ensures.own in
    let one : JudgesOne s t index p.header.count p.body = subst (λ (k : Header). JudgesOne s t index k.count p.body) same (subst (JudgesOne s t index h.count) read.body c.arrive.ensures.judges) in
    received-arrival s t packets p index (ap (λ (k : Header). stream_of s.streams k.apid) (sym same) ∙ is) within (sym (own ∙ ap (λ (k : Header). k.apid) same)) (ap has_shape (sym same) ∙ shape) one has
