-- How the fields of a quiet desk are seen.
use Rattle.std.specs.Prelude.{Bool, true, false, Option, Some, None}
use Rattle.desk_ports.specs.declared.quiet.Inputs.{Inputs}
use Rattle.desk_ports.specs.declared.quiet.QuietInput.{QuietInput}
use Rattle.desk_ports.specs.declared.quiet.QuietDesk.TheInside.{Inside}
use Rattle.desk_ports.specs.Meanings.{Kept}
use Rattle.desk_ports.specs.MemState.{MemIncoming}
use Rattle.desk_ports.specs.QuietState.{QuietState, both_kept}

abbrev pub kept_inputs : Inputs → Kept
kept_inputs inputs = both_kept inputs.side_name.now inputs.side.now inputs.main_name.now inputs.main.now

abbrev pub incoming_of : QuietInput → MemIncoming
incoming_of unread = record { left = unread.left.now; ready = unread.ready }

abbrev pub held_until : Bool → Kept → Option Kept
held_until false kept = Some kept
held_until true kept = None

abbrev pub state_of : Inside → QuietState
state_of desk = record {
  side = incoming_of desk.side;
  input = incoming_of desk.input;
  output = desk.output.ready;
  report = desk.report.ready;
  held = held_until desk.finished (kept_inputs desk.inputs);
}
