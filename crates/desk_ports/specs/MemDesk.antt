-- How the fields of a desk in memory are seen.
use Rattle.std.specs.Prelude.{ℕ, ◌<◌, ◌≤◌, true, List, IfSome, length, drop}
use Rattle.desk_ports.specs.declared.desk.Inlet.{Inlet}
use Rattle.desk_ports.specs.declared.desk.Inlet.TheVariants as inlet
use Rattle.desk_ports.specs.declared.memory.Cursor.{Cursor}
use Rattle.desk_ports.specs.declared.memory.Cursor.TheVariants as cursor
use Rattle.desk_ports.specs.declared.memory.Cursors.{Cursors}
use Rattle.desk_ports.specs.declared.memory.MemDesk.TheInside.{Inside}
use Rattle.desk_ports.specs.Log.{kept_of, bytes_at}
use Rattle.desk_ports.specs.MemState.{MemIncoming, MemState, closed_incoming}

abbrev pub cursor_at : Cursors → Inlet → Cursor
cursor_at cursors inlet.Side = cursors.side
cursor_at cursors inlet.Main = cursors.input

abbrev pub with_cursor : Cursors → Inlet → Cursor → Cursors
with_cursor cursors inlet.Side cursor = record cursors { side = cursor }
with_cursor cursors inlet.Main cursor = record cursors { input = cursor }

-- what an inlet has left: the rest of an entry of the log
abbrev pub incoming_of : List (List ℕ × List ℕ) → Cursor → MemIncoming
incoming_of log cursor.Nothing = closed_incoming
incoming_of log (cursor.Entry at place) = record { left = drop place (bytes_at log at); ready = true }

-- an inlet is within an entry
abbrev pub IsInEntry : List (List ℕ × List ℕ) → Cursor → Type 0
IsInEntry log cursor.Nothing = Unit {0}
IsInEntry log (cursor.Entry at place) = (at < length log) × (place ≤ length (bytes_at log at))

abbrev pub state_of : Inside → MemState
state_of desk = record {
  side = incoming_of desk.log.items desk.cursors.side;
  input = incoming_of desk.log.items desk.cursors.input;
  output = desk.output;
  report = desk.report;
  held = kept_of desk.log.items;
  pieces = desk.pieces;
  plan = desk.plan;
  faults = record { reads = desk.faults.reads; writes = desk.faults.writes; short = desk.faults.short };
}

-- both inlets are within entries, and a piece has at least one byte
pub record IsSound (desk : Inside) : Type 0 where
  pub side : IsInEntry desk.log.items desk.cursors.side
  pub input : IsInEntry desk.log.items desk.cursors.input
  pub some : IfSome desk.pieces (λ size. 1 ≤ size)
