use Rattle.std.proofs.Common.{◌≡◌, ◌+◌, ◌≤◌, false, Ok, length, take, ap, sym, ◌∙◌, arith}
use Rattle.packet_store.specs.SpacePackets.{is_misshapen}
use Rattle.packet_store.proofs.Packets.{IsGood-at}
use Rattle.packet_store.proofs.Reading.{HasHeader, untouched}
use Rattle.packet_store.proofs.packet.hold_packet.Goals as goal

pub returns-in_err-hold-2-clause-whole : goal.returns-in_err-hold-2-clause-whole
returns-in_err-hold-2-clause-whole g c = λ begins.
    let h = c.first_header-header.result in
    let has : HasHeader h c.hold.new.self = record { fields = c.first_header-header.ensures.fields; spelled = ap (take 6) (sym c.bytes-2.ensures.ahead) ∙ c.first_header-header.ensures.spelled } in
    untouched c.args.chosen begins c.in_ok-hold.ensures.read has c.in_ok-hold.ensures.whole (λ long. c.in_err-hold-2.ensures.whole (omega (arith, long, c.size.ensures)))

pub returns-then-not-branch-2-clause-whole : goal.returns-then-not-branch-2-clause-whole
returns-then-not-branch-2-clause-whole g c = λ begins.
    let h = c.first_header-header.result in
    let has : HasHeader h c.hold.new.self = record { fields = c.first_header-header.ensures.fields; spelled = ap (take 6) (sym c.bytes-2.ensures.ahead) ∙ c.first_header-header.ensures.spelled } in
    untouched c.args.chosen begins c.in_ok-hold.ensures.read has c.in_ok-hold.ensures.whole (λ long. c.in_ok-hold-2.ensures.whole (omega (arith, long, c.size.ensures)))

pub returns-clause-good : goal.returns-clause-good
returns-clause-good g c =
    let h = c.first_header-header.result in
    let bytes = c.hold-2.new.self in
    let held = ap Ok c.if-not-branch-2.false in
    let long : h.length + 7 ≤ length bytes = omega (arith, c.in_ok-hold-2.ensures.held held, c.size.ensures) in
    let shape : is_misshapen c.args.chosen h ≡ false = sym c.is_misshapen.ensures ∙ c.if-is_misshapen.false in
    IsGood-at c.args.chosen h bytes c.first_header-header.ensures.fields c.if-header-ne0.false shape long (c.in_ok-hold-2.ensures.bytes held)

pub returns-clause-whole : goal.returns-clause-whole
returns-clause-whole g c = λ begins.
    let h = c.first_header-header.result in
    let has : HasHeader h c.hold.new.self = record { fields = c.first_header-header.ensures.fields; spelled = ap (take 6) (sym c.bytes-2.ensures.ahead) ∙ c.first_header-header.ensures.spelled } in
    untouched c.args.chosen begins c.in_ok-hold.ensures.read has c.in_ok-hold.ensures.whole (λ long. c.in_ok-hold-2.ensures.whole (omega (arith, long, c.size.ensures)))
