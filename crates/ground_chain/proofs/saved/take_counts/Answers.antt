use Rattle.std.proofs.Common.{refl, arith}
use Rattle.ground_chain.proofs.Reckonings.{after_eight}
use Rattle.ground_chain.proofs.saved.take_counts.Goals as goal

pub returns-in_err-packets-clause-none : goal.returns-in_err-packets-clause-none
returns-in_err-packets-clause-none c e =
    let h0 = c.in_ok-next.ensures in
    let last = c.in_err-packets.ensures in
    omega (arith, after_eight c.in_ok-next.next c.args.bytes.now c.in_ok-next.rest.now h0.some, last.none refl)

pub returns-in_err-written-clause-none : goal.returns-in_err-written-clause-none
returns-in_err-written-clause-none c e =
    let h0 = c.in_ok-next.ensures in
    let h1 = c.in_ok-packets.ensures in
    let last = c.in_err-written.ensures in
    omega (arith, after_eight c.in_ok-next.next c.args.bytes.now c.in_ok-next.rest.now h0.some, after_eight c.in_ok-packets.packets c.in_ok-next.rest.now c.in_ok-packets.rest.now h1.some, last.none refl)

pub returns-in_err-repeats-clause-none : goal.returns-in_err-repeats-clause-none
returns-in_err-repeats-clause-none c e =
    let h0 = c.in_ok-next.ensures in
    let h1 = c.in_ok-packets.ensures in
    let h2 = c.in_ok-written.ensures in
    let last = c.in_err-repeats.ensures in
    omega (arith, after_eight c.in_ok-next.next c.args.bytes.now c.in_ok-next.rest.now h0.some, after_eight c.in_ok-packets.packets c.in_ok-next.rest.now c.in_ok-packets.rest.now h1.some, after_eight c.in_ok-written.written c.in_ok-packets.rest.now c.in_ok-written.rest.now h2.some, last.none refl)

pub returns-in_err-listed-clause-none : goal.returns-in_err-listed-clause-none
returns-in_err-listed-clause-none c e =
    let h0 = c.in_ok-next.ensures in
    let h1 = c.in_ok-packets.ensures in
    let h2 = c.in_ok-written.ensures in
    let h3 = c.in_ok-repeats.ensures in
    let last = c.in_err-listed.ensures in
    omega (arith, after_eight c.in_ok-next.next c.args.bytes.now c.in_ok-next.rest.now h0.some, after_eight c.in_ok-packets.packets c.in_ok-next.rest.now c.in_ok-packets.rest.now h1.some, after_eight c.in_ok-written.written c.in_ok-packets.rest.now c.in_ok-written.rest.now h2.some, after_eight c.in_ok-repeats.repeats c.in_ok-written.rest.now c.in_ok-repeats.rest.now h3.some, last.none refl)
