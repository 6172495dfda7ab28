use Rattle.std.proofs.Common.{◌≡◌, ◌^◌, ◌<◌, ◌≤◌, Ok, length, drop, refl, sym, ap, ◌∙◌, subst, arith, rules}
use Rattle.std.proofs.lemmas.Bool.{false≢true}
use Rattle.bit_vectors.specs.Vectors.{byte_count}
use Rattle.desk_ports.specs.Meanings.{ReadsOn}
use Rattle.flight_chain.specs.Reading.{TakesInput}
use Rattle.flight_chain.proofs.Recordings.{TakesInput-whole, Stops-too_many, Stops-cut, Stops-spare, Waits-short}
use Rattle.flight_chain.proofs.reading.read_input.Goals as goal

pub returns-in_default-clause-unread : goal.returns-in_default-clause-unread
returns-in_default-clause-unread g c =
    let a = g.D.Desk.meaning c.args.desk.now in
    let b = g.D.Desk.meaning c.hold.new.desk in
    let f = length c.args.input.now in
    let told = c.in_default.ensures in
    let size : c.byte_len-size.result ≡ byte_count f = c.byte_len-size.ensures ∙ ap byte_count c.len.ensures.len in
    let short : length c.hold.new.self < byte_count f = omega (arith, told.cut, size) in
    Waits-short f c.args.t c.args.ahead.now c.hold.new.self a b c.requires.vector.0 c.requires.number short told.read

pub returns-then-t-from-clause-unread : goal.returns-then-t-from-clause-unread
returns-then-t-from-clause-unread g c =
    let a = g.D.Desk.meaning c.args.desk.now in
    let b = g.D.Desk.meaning c.hold.new.desk in
    let full : c.args.t ≡ 2 ^ 32 = omega (arith, c.requires.number, c.if-t-from.true, c.from.ensures) in
    let nonempty : 0 < length c.hold.new.self = search rules in
    Stops-too_many (length c.args.input.now) c.args.t c.args.ahead.now c.hold.new.self a b c.requires.vector.0 full nonempty c.in-Ok.ensures.read

pub returns-then-not-whole-clause-unread : goal.returns-then-not-whole-clause-unread
returns-then-not-whole-clause-unread g c =
    let a = g.D.Desk.meaning c.args.desk.now in
    let b = g.D.Desk.meaning c.hold.new.desk in
    let f = length c.args.input.now in
    let before = c.args.ahead.now in
    let told = c.in-Ok.ensures in
    let not_whole = ap Ok c.if-not-whole.true in
    let size : c.byte_len-size.result ≡ byte_count f = c.byte_len-size.ensures ∙ ap byte_count c.len.ensures.len in
    let fewer = told.short not_whole in
    let short : length c.hold.new.self < byte_count f = omega (arith, fewer, size) in
    let nonempty : 0 < length c.hold.new.self = search rules in
    let few : c.args.t < 2 ^ 32 = omega (arith, c.if-t-from.false, c.from.ensures) in
    Stops-cut f c.args.t before c.hold.new.self a b c.requires.vector.0 few nonempty short told.read (told.at_end not_whole)

pub returns-in_default-load-clause-unread : goal.returns-in_default-load-clause-unread
returns-in_default-load-clause-unread g c =
    let a = g.D.Desk.meaning c.args.desk.now in
    let b = g.D.Desk.meaning c.hold.new.desk in
    let f = length c.args.input.now in
    let n = c.byte_len-size.result in
    let before = c.args.ahead.now in
    let held = c.bytes-2.result.now in
    let told = c.in-Ok.ensures in
    let size : n ≡ byte_count f = c.byte_len-size.ensures ∙ ap byte_count c.len.ensures.len in
    let enough = told.held (ap Ok c.if-not-whole.false) in
    let long : n ≤ length held = omega (arith, enough, ap length c.bytes-2.ensures.ahead) in
    let few : c.args.t < 2 ^ 32 = omega (arith, c.if-t-from.false, c.from.ensures) in
    let read = subst (λ l. ReadsOn before l a b) (sym c.bytes-2.ensures.ahead) told.read in
    Stops-spare f c.args.t n before held a b c.requires.vector.0 few size long (c.in_default-load.ensures.spare.0 refl) read

pub returns-clause-taken : goal.returns-clause-taken
returns-clause-taken g c =
    let a = g.D.Desk.meaning c.args.desk.now in
    let b = g.D.Desk.meaning c.hold.new.desk in
    let f = length c.args.input.now in
    let n = c.byte_len-size.result in
    let before = c.args.ahead.now in
    let held = c.bytes-2.result.now in
    let told = c.in-Ok.ensures in
    let size : n ≡ byte_count f = c.byte_len-size.ensures ∙ ap byte_count c.len.ensures.len in
    let enough = told.held (ap Ok c.if-not-whole.false) in
    let long : n ≤ length held = omega (arith, enough, ap length c.bytes-2.ensures.ahead) in
    let few : c.args.t < 2 ^ 32 = omega (arith, c.if-t-from.false, c.from.ensures) in
    let read = subst (λ l. ReadsOn before l a b) (sym c.bytes-2.ensures.ahead) told.read in
    let loaded = c.in-Ok-load.ensures in
    let left = ap (drop n) c.bytes-2.ensures.ahead ∙ sym c.pass.ensures in
    subst (λ after. TakesInput f c.args.t before after a b c.load.new.self) left (TakesInput-whole f c.args.t n before held a b c.load.new.self c.requires.vector.0 few size long (λ one. false≢true (loaded.spare.1 one)) loaded.loaded loaded.len read)
