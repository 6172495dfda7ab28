-- What is seen of a quiet desk, and what it tells.
use Rattle.std.specs.Prelude.{Bool, true, false, List, ℕ, Option, Some, None, refl}
use Rattle.std.specs.Coded.{Coded, code_by, coded×, coded_bool, coded_option}
use Rattle.std.specs.Option.{option_map}
use Rattle.std.specs.FinMap as map
use Rattle.desk_ports.specs.Meanings.{Meanings, Counts, Incoming, Outgoing, Kept, kept_at}
use Rattle.desk_ports.specs.MemState.{MemIncoming, incoming_code, kept_code, closed_incoming}

-- all of a quiet desk: its inputs, whether its outputs were opened, and what it keeps, until an output is finished
pub record QuietState : Type 0 where
  pub side : MemIncoming
  pub input : MemIncoming
  pub output : Bool
  pub report : Bool
  pub held : Option Kept

abbrev pub quiet_code : Coded QuietState
quiet_code =
    code_by ((MemIncoming × MemIncoming) × ((Bool × Bool) × Option Kept))
    (coded× (coded× incoming_code incoming_code) (coded× (coded× coded_bool coded_bool) (coded_option kept_code)))
    (λ q. ((q.side, q.input), ((q.output, q.report), q.held)))
    (λ p. record { side = p.0.0; input = p.0.1; output = p.1.0.0; report = p.1.0.1; held = p.1.1 })
    (λ _. refl)

-- two named inputs; if both names are equal, the second one holds
abbrev pub both_kept : List ℕ → List ℕ → List ℕ → List ℕ → Kept
both_kept side_name side main_name main = map.insert (map.insert map.empty side_name side) main_name main

-- a new desk that keeps this: nothing is open
abbrev pub quiet_desk : Kept → QuietState
quiet_desk kept = record { side = closed_incoming; input = closed_incoming; output = false; report = false; held = Some kept }

-- the bytes that are kept under a name, if the desk tells them
abbrev pub quiet_held : QuietState → List ℕ → Option (List ℕ)
quiet_held desk name = option_map (λ kept. kept_at kept name) desk.held

abbrev pub quiet_incoming : MemIncoming → Incoming
quiet_incoming i = record { left = Some i.left; ready = i.ready }

abbrev pub quiet_outgoing : Bool → Outgoing
quiet_outgoing ready = record { made = None; name = None; ready = ready }

-- what a quiet desk tells: what its inlets have left, and what it keeps until an output is finished. It grants every name
abbrev pub quiet_meanings : QuietState → Meanings
quiet_meanings desk = record {
  side = quiet_incoming desk.side;
  input = quiet_incoming desk.input;
  output = quiet_outgoing desk.output;
  report = quiet_outgoing desk.report;
  held = desk.held;
  grants_in = λ _. true;
  grants_out = λ _. true;
}

-- nothing fails
abbrev pub quiet_counts : QuietState → Counts
quiet_counts desk = record { reads = 0; writes = 0 }
