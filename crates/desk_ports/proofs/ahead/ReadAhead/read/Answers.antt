use Rattle.std.proofs.Common.{◌≡◌, ◌+◌, ◌-◌, ◌≤◌, ◌++◌, [], length, take, drop, refl, sym, ap, ◌∙◌, subst, arith, rules}
use Rattle.std.proofs.lemmas.List.{with_items_is}
use Rattle.desk_ports.specs.declared.desk.Inlet.TheVariants as inlet
use Rattle.desk_ports.specs.Meanings.{Moves}
use Rattle.desk_ports.proofs.Courses.{Moves-none}
use Rattle.desk_ports.proofs.Desks.{read_after}
use Rattle.desk_ports.proofs.ahead.ReadAhead.read.Goals as goal

pub returns-in_err-moved-clause-read : goal.returns-in_err-moved-clause-read
returns-in_err-moved-clause-read g c =
    let meaning = g.D.Desk.meaning in
    let inside = c.self.inside in
    let room = c.move_to_front.new.room in
    let k = inside.filled - inside.next in
    let same : length room ≡ inside.room.len = search rules in
    let first = c.deref_mut-2.ensures.value ∙ with_items_is inside.room room same in
    let size : length c.deref_mut-2.result.now ≡ inside.room.len = ap length first ∙ same in
    let fits : k ≤ inside.room.len = omega (arith, c.self.invariant.within) in
    let within : k ≤ length c.deref_mut-2.result.now = omega (arith, fits, size) in
    let few : 0 ≤ length c.read.new.buf = omega arith in
    let long : k + length c.read.new.buf ≤ inside.room.len = search rules in
    let front = c.move_to_front.ensures.moved ∙ (ap (λ l. drop inside.next (take inside.filled l)) c.deref_mut.ensures.value ∙ c.self.view_is) in
    let seen = read_after inside.room.len k 0 k _ room c.deref_mut-2.result.now c.read.new.buf (omega arith) first within few long ∙ ap (λ l. l ++ []) front in
    let nothing : Moves (meaning c.args.desk.now) (meaning c.read.new.self) inlet.Main [] = subst (λ m. Moves (meaning c.args.desk.now) m inlet.Main []) (sym c.in_err-moved.ensures.unchanged) (Moves-none (meaning c.args.desk.now) inlet.Main) in
    record { bytes = []; joined = seen; moved = nothing }

pub returns-clause-read : goal.returns-clause-read
returns-clause-read g c =
    let inside = c.self.inside in
    let room = c.move_to_front.new.room in
    let k = inside.filled - inside.next in
    let n = c.in_ok-moved.moved in
    let same : length room ≡ inside.room.len = search rules in
    let first = c.deref_mut-2.ensures.value ∙ with_items_is inside.room room same in
    let size : length c.deref_mut-2.result.now ≡ inside.room.len = ap length first ∙ same in
    let fits : k ≤ inside.room.len = omega (arith, c.self.invariant.within) in
    let within : k ≤ length c.deref_mut-2.result.now = omega (arith, fits, size) in
    let few : n ≤ length c.read.new.buf = search rules in
    let long : k + length c.read.new.buf ≤ inside.room.len = search rules in
    let front = c.move_to_front.ensures.moved ∙ (ap (λ l. drop inside.next (take inside.filled l)) c.deref_mut.ensures.value ∙ c.self.view_is) in
    let seen = read_after inside.room.len k n (k + n) _ room c.deref_mut-2.result.now c.read.new.buf refl first within few long ∙ ap (λ l. l ++ take n c.read.new.buf) front in
    record { bytes = take n c.read.new.buf; joined = seen; moved = c.in_ok-moved.ensures.moved }
