use Rattle.std.proofs.Common.{◌≡◌, ◌+◌, ◌-◌, ◌≤◌, ◌++◌, length, take, sym, ap, subst, ◌∙◌, rules, arith}
use Rattle.std.proofs.lemmas.List.{with_items_is}
use borrow.Rule.Slice.PartMut.{put_mid}
use Rattle.desk_ports.specs.Meanings.{Moves}
use Rattle.desk_ports.proofs.Courses.{Moves-then, Moves-ready, take-put_mid-add}
use Rattle.pocket_cmd.proofs.text.fill_text.Goals as goal

pub loop-filled-preserved : goal.loop-filled-preserved
loop-filled-preserved g c =
    let meaning = g.D.Desk.meaning in
    let kept = c.loop-filled.invariant in
    let read = c.in_ok-moved.ensures in
    let first = meaning c.args.desk.now in
    let before = meaning c.loop-filled.desk in
    let after = meaning c.read.new.self in
    let k = c.loop-filled.filled in
    let n = c.in_ok-moved.moved in
    let wide = c.widen.new.room in
    let slice = c.deref_mut.result.now in
    let part = put_mid k (length slice - k) slice c.read.new.buf in
    let size : length slice ≡ wide.len = search rules in
    let within : k ≤ length slice = search rules in
    let few : n ≤ length c.read.new.buf = search rules in
    let long : length part ≡ wide.len = search rules in
    let whole = with_items_is wide part long in
    let count : length wide.items ≡ wide.len = search rules in
    let joined = ap (take (k + n)) whole ∙ (take-put_mid-add slice c.read.new.buf k (length slice - k) n within few
    ∙ (ap (λ l. take k l ++ take n c.read.new.buf) c.deref_mut.ensures.value ∙ ap (λ l. l ++ take n c.read.new.buf) c.widen.ensures.front)) in
    record {
      room = (rw whole (search rules), rw (whole, long) (omega (arith, count, c.widen.ensures.room.1)));
      moved = subst (Moves first after c.args.inlet) (sym joined) (Moves-then first before after c.args.inlet _ _ kept.moved read.moved);
      ready = Moves-ready before after c.args.inlet _ read.moved kept.ready;
      steady = read.cause ∙ kept.steady;
    }
