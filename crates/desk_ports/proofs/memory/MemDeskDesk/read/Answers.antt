use Rattle.std.proofs.Common.{◌+◌, ◌≤◌, length, take, drop, List, ℕ, [], sym, ap, subst, ◌∙◌, length-drop, arith}
use Rattle.std.proofs.lemmas.List.{take_rest, get_or_read}
use Rattle.desk_ports.specs.Log.{bytes_at}
use Rattle.desk_ports.specs.declared.calls.Call.TheVariants as call
use Rattle.desk_ports.specs.declared.memory.Cursor.TheVariants as cursor
use Rattle.desk_ports.specs.MemState.{MemState, called, mem_counts, mem_meanings}
use Rattle.desk_ports.specs.MemDesk.{state_of, IsInEntry, IsSound}
use Rattle.desk_ports.specs.Meanings.{Moves}
use Rattle.desk_ports.proofs.Desks.{Moves_on, IsInEntry_at, IsSound_on, capped_le}
use Rattle.desk_ports.proofs.memory.MemDeskDesk.read.Goals as goal

pub returns-clause-moved : goal.returns-clause-moved
returns-clause-moved c =
    let desk = c.self.inside in
    let log = desk.log.items in
    let at = c.in-Entry.at in
    let place = c.in-Entry.place in
    let n = c.capped-moved.result in
    let old = mem_meanings (state_of desk) in
    let new = mem_meanings (state_of (record desk { cursors = c.set.new.self })) in
    let within : IsInEntry log (cursor.Entry at place) = subst (IsInEntry log) (sym c.in-Entry.ensures) (IsInEntry_at desk c.args.inlet c.self.invariant) in
    let entry = c.bytes.ensures ∙ ap (λ (e : List ℕ × List ℕ). e.1) (get_or_read log at c.index.result.now within.0 c.index.ensures ([], [])) in
    let rest = take_rest c.bytes.result.now place ∙ ap (drop place) entry in
    let moved = sym (c.copy_front.ensures ∙ ap (take n) rest) in
    let on = Moves_on desk c.args.inlet at place n (sym c.in-Entry.ensures) in
    let set = subst (λ cursors. Moves old (mem_meanings (state_of (record desk { cursors = cursors }))) c.args.inlet (take n (drop place (bytes_at log at)))) (sym c.set.ensures) on in
    let told = subst (Moves old new c.args.inlet) moved set in
    subst (λ state. Moves (mem_meanings state) new c.args.inlet (take n c.copy_front.new.buf)) c.self.view_is told

pub returns-clause-cause : goal.returns-clause-cause
returns-clause-cause c = ap mem_counts c.self.view_is

pub returns-clause-still : goal.returns-clause-still
returns-clause-still c = ap (λ (s : MemState). s.faults) c.self.view_is

pub returns-clause-called : goal.returns-clause-called
returns-clause-called c = record { numbered = c.next.ensures.numbered ∙ ap (λ (s : MemState). called s.plan call.Read) c.self.view_is; pieces = ap (λ (s : MemState). s.pieces) c.self.view_is }

pub invariant_of-self-2 : goal.invariant_of-self-2
invariant_of-self-2 c =
    let desk = c.self.inside in
    let log = desk.log.items in
    let at = c.in-Entry.at in
    let place = c.in-Entry.place in
    let within : IsInEntry log (cursor.Entry at place) = subst (IsInEntry log) (sym c.in-Entry.ensures) (IsInEntry_at desk c.args.inlet c.self.invariant) in
    let entry = c.bytes.ensures ∙ ap (λ (e : List ℕ × List ℕ). e.1) (get_or_read log at c.index.result.now within.0 c.index.ensures ([], [])) in
    let rest = take_rest c.bytes.result.now place ∙ ap (drop place) entry in
    let short : place + c.capped-moved.result ≤ length (bytes_at log at) = omega (arith, capped_le desk.pieces c.min.result, c.capped-moved.ensures, ap length rest, length-drop place (bytes_at log at), within.1) in
    let set = subst (λ cursors. IsSound (record desk { cursors = cursors })) (sym c.set.ensures) (IsSound_on desk c.args.inlet at (place + c.capped-moved.result) c.self.invariant within.0 short) in
    record { side = set.side; input = set.input; some = set.some }
