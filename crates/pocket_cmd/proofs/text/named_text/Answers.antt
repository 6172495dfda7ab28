use Rattle.std.proofs.Common.{◌≡◌, ◌≤◌, length, Some, IfSome, subst, arith}
use Rattle.pocket_cmd.specs.Openings.{IsTextReadTo, given}
use Rattle.pocket_cmd.proofs.text.named_text.Goals as goal

pub returns-then-moved-gt-MOST_TEXT_BYTES-clause-long : goal.returns-then-moved-gt-MOST_TEXT_BYTES-clause-long
returns-then-moved-gt-MOST_TEXT_BYTES-clause-long g c = λ _.
    let read = c.in_ok-moved.ensures in
    let full : c.in_ok-moved.moved ≡ 1048577 = omega (arith, read.room.0, read.room.1, c.if-moved-gt-MOST_TEXT_BYTES.true) in
    subst (λ n. IfSome (given (g.D.Desk.meaning c.args.desk.now) c.args.inlet c.args.name.now) (λ bytes. n ≤ length bytes)) full read.front

pub returns-then-moved-gt-MOST_TEXT_BYTES-clause-no_further : goal.returns-then-moved-gt-MOST_TEXT_BYTES-clause-no_further
returns-then-moved-gt-MOST_TEXT_BYTES-clause-no_further g c = λ _.
    let read = c.in_ok-moved.ensures in
    let full : c.in_ok-moved.moved ≡ 1048577 = omega (arith, read.room.0, read.room.1, c.if-moved-gt-MOST_TEXT_BYTES.true) in
    subst (λ n. IsTextReadTo n (g.D.Desk.meaning c.args.desk.now) c.args.inlet (Some c.args.name.now) (g.D.Desk.meaning c.read_text.new.desk)) full read.moved
