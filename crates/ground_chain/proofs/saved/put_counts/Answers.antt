use Rattle.std.proofs.Common.{◌≤◌, length, arith}
use Rattle.state_bytes.proofs.Parts.{Puts-then, length-number_bytes}
use Rattle.ground_chain.proofs.saved.put_counts.Goals as goal

pub put_number-at-requires-2 : goal.put_number-at-requires-2
put_number-at-requires-2 c = let a = c.put_number-at.ensures in omega (arith, c.requires, a.end_is, a.len, length-number_bytes c.args.next)

pub put_number-at-requires-3 : goal.put_number-at-requires-3
put_number-at-requires-3 c =
    let r = c.args.restored.now in
    let a = c.put_number-at.ensures in
    let b = c.put_number-at-2.ensures in
    omega (arith, c.requires, a.end_is, a.len, b.end_is, b.len, length-number_bytes c.args.next, length-number_bytes r.packets)

pub put_number-at-requires-4 : goal.put_number-at-requires-4
put_number-at-requires-4 c =
    let r = c.args.restored.now in
    let a = c.put_number-at.ensures in
    let b = c.put_number-at-2.ensures in
    let d = c.put_number-at-3.ensures in
    omega (arith, c.requires, a.end_is, a.len, b.end_is, b.len, d.end_is, d.len, length-number_bytes c.args.next, length-number_bytes r.packets, length-number_bytes r.written)

pub put_number-requires : goal.put_number-requires
put_number-requires c =
    let r = c.args.restored.now in
    let a = c.put_number-at.ensures in
    let b = c.put_number-at-2.ensures in
    let d = c.put_number-at-3.ensures in
    let e = c.put_number-at-4.ensures in
    omega (arith, c.requires, a.end_is, a.len, b.end_is, b.len, d.end_is, d.len, e.end_is, e.len, length-number_bytes c.args.next, length-number_bytes r.packets, length-number_bytes r.written, length-number_bytes r.repeats)

pub returns : goal.returns
returns c =
    let r = c.args.restored.now in
    let p1 = c.put_number-at.ensures in
    let p2 = c.put_number-at-2.ensures in
    let p3 = c.put_number-at-3.ensures in
    let p4 = c.put_number-at-4.ensures in
    let p5 = c.put_number.ensures in
    let end : c.put_number.result ≤ length c.args.out.now =
    omega (arith, c.requires, p1.end_is, p2.end_is, p3.end_is, p4.end_is, p5.end_is, length-number_bytes c.args.next, length-number_bytes r.packets, length-number_bytes r.written, length-number_bytes r.repeats, length-number_bytes r.listed) in
    let q4 = Puts-then c.put_number-at-3.new.out c.put_number-at-4.new.out c.put_number.new.out _ _ _ _ _ p4 p5 (omega (arith, end, p1.len, p2.len, p3.len)) in
    let q3 = Puts-then c.put_number-at-2.new.out c.put_number-at-3.new.out c.put_number.new.out _ _ _ _ _ p3 q4 (omega (arith, end, p1.len, p2.len)) in
    let q2 = Puts-then c.put_number-at.new.out c.put_number-at-2.new.out c.put_number.new.out _ _ _ _ _ p2 q3 (omega (arith, end, p1.len)) in
    Puts-then c.args.out.now c.put_number-at.new.out c.put_number.new.out _ _ _ _ _ p1 q2 end
