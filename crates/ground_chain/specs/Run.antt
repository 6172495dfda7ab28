-- The run over a list of arrivals: their numbers, a verdict for each, and what is known after it.
use Rattle.std.specs.Prelude.{◌≡◌, ℕ, ◌+◌, ◌-◌, ◌%◌, ◌==◌, if◌then◌else◌, Option, Some, None, ◌<◌, ◌≤◌, nat_lt, List, [], ◌∷◌, length, Bool, Result, Ok, Err, unwrap_or}
use Rattle.bit_vectors.specs.Reading.{Parsed, Read, WrongBit, TooShort}
use Rattle.bit_vectors.specs.Vectors.{bits_of}
use Rattle.bit_vectors.specs.declared.fault.BitFault.{BitFault}
use Rattle.packet_store.specs.SpacePackets.{period}
use Rattle.packet_decode.specs.PacketReading.{Outcome, Spelled, Opaque, Found, parse_whole_packet, answer_of}
use Rattle.packet_decode.specs.State.{State, Change, next_state, no_vectors}
use Rattle.packet_decode.specs.declared.decoder.Reading.{Reading}
use Rattle.packet_decode.specs.declared.decoder.Reading.TheVariants as answer
use Rattle.ground_chain.specs.declared.verdict.Kind.{Kind}
use Rattle.ground_chain.specs.declared.verdict.Kind.TheVariants.{Written, Repeat, Unsynced, Gap, Refused}
use Rattle.ground_chain.specs.declared.verdict.Lost.{Lost}
use Rattle.ground_chain.specs.declared.verdict.Verdict.{Verdict}

-- ---- the numbers of packets that arrive, from their sequence counts

-- the number t has this sequence count
abbrev pub HasCount : ℕ → ℕ → Type 0
HasCount t count = t % period ≡ count

-- how far the next number with a count is above a number, 0 if that number has it
abbrev pub distance : ℕ → ℕ → ℕ
distance n count = (count + (period - n % period)) % period

-- The number of an arrival with this count, after the latest number if there was one before: the first has its count
-- as its number, and any other the least greater number with that count. None if the count is that of the latest
-- number: the arrival is a repeat of it.
abbrev pub number_after : Option ℕ → ℕ → Option ℕ
number_after None count = Some count
number_after (Some n) count = if distance n count == 0 then None else Some (n + distance n count)

-- the latest number after one more arrival
abbrev pub latest_after : Option ℕ → Option ℕ → Option ℕ
latest_after latest None = latest
latest_after latest (Some t) = Some t

-- the number that comes next if nothing is lost
abbrev pub expected : Option ℕ → ℕ
expected None = 0
expected (Some latest) = latest + 1

-- ---- the run over a list of arrivals: a verdict for each, and what is known after it

-- an arrival: the sequence count and the data bytes of a packet of the chosen APID
pub record Arrival : Type 0 where
  pub count : ℕ
  pub body : List ℕ

-- an arrival may have this sequence count, of 14 bits, and these data bytes, at most 65,536
abbrev pub IsArrival : ℕ → List ℕ → Type 0
IsArrival count body = (count < period) × (length body ≤ 65536)

-- what is known between two arrivals: the number of the latest one, and the latest mask and content
pub record Known : Type 0 where
  pub latest : Option ℕ
  pub state : State

-- before the first arrival
abbrev pub nothing_known : Known
nothing_known = record { latest = None; state = no_vectors }

-- an arrival's verdict, the first part of its packet if that is written, and what is known after it
pub record Judged : Type 0 where
  pub verdict : Verdict
  pub change : Option Change
  pub after : Known

-- ---- one arrival

-- the numbers from this one up to the one before t, if there are any
abbrev pub lost_from : ℕ → ℕ → Option Lost
lost_from first t = if nat_lt first t then Some (record { first = first; last = t - 1 }) else None

abbrev pub answer_kind : Result Reading BitFault → Kind
answer_kind (Ok answer.Written) = Written
answer_kind (Ok (answer.Unsynced mask)) = Unsynced mask
answer_kind (Ok (answer.Gap level mask)) = Gap level mask
answer_kind (Err fault) = Refused fault

-- the verdict of an arrival that is no repeat: what was lost before it, its number, and the answer to its data
abbrev pub verdict_of : Option ℕ → ℕ → Result Reading BitFault → Verdict
verdict_of latest t answer = record { lost = lost_from (expected latest) t; t = t; kind = answer_kind answer }

-- a repeat has the latest number, its data are not read, and nothing changes
abbrev pub repeat_judged : Known → Judged
repeat_judged known = record { verdict = record { lost = None; t = unwrap_or known.latest 0; kind = Repeat }; change = None; after = known }

abbrev pub state_with : State → ℕ → Outcome → State
state_with state t (Spelled mask content) = next_state state t mask content
state_with state t Opaque = state

-- what was read of all bits, as the state after it: with what becomes known by the packet t if one is spelled,
-- otherwise as before
abbrev pub state_read : State → ℕ → Parsed Found → State
state_read state t (Read found rest) = state_with state t found.outcome
state_read state t (WrongBit rest) = state
state_read state t TooShort = state

-- the state after the bits of the packet with the number t
abbrev pub state_after : ℕ → State → ℕ → List Bool → State
state_after f state t bits = state_read state t (parse_whole_packet f state t bits)

abbrev pub change_with : Change → Outcome → Option Change
change_with change (Spelled mask (Some content)) = Some change
change_with change (Spelled mask None) = None
change_with change Opaque = None

-- the first part of what was read of all bits, if a content becomes known
abbrev pub change_read : Parsed Found → Option Change
change_read (Read found rest) = change_with found.change found.outcome
change_read (WrongBit rest) = None
change_read TooShort = None

-- the same of the bits of the packet with the number t
abbrev pub change_after : ℕ → State → ℕ → List Bool → Option Change
change_after f state t bits = change_read (parse_whole_packet f state t bits)

-- an arrival with this number is read
abbrev pub judge_as : ℕ → Known → List ℕ → ℕ → Judged
judge_as f known body t = record {
  verdict = verdict_of known.latest t (answer_of f known.state t (bits_of body));
  change = change_after f known.state t (bits_of body);
  after = record { latest = Some t; state = state_after f known.state t (bits_of body) };
}

abbrev pub judged_by : ℕ → Known → List ℕ → Option ℕ → Judged
judged_by f known body None = repeat_judged known
judged_by f known body (Some t) = judge_as f known body t

-- an arrival, by its number
abbrev pub judge : ℕ → Known → Arrival → Judged
judge f known arrival = judged_by f known arrival.body (number_after known.latest arrival.count)

-- ---- all arrivals

abbrev pub run_from : ℕ → Known → List Arrival → List Judged
run_from f known [] = []
run_from f known (arrival ∷ arrivals) =
    let judged = judge f known arrival in
    judged ∷ run_from f judged.after arrivals

-- the run over all arrivals
abbrev pub run : ℕ → List Arrival → List Judged
run f arrivals = run_from f nothing_known arrivals

abbrev pub known_from : ℕ → Known → List Arrival → Known
known_from f known [] = known
known_from f known (arrival ∷ arrivals) = known_from f (judge f known arrival).after arrivals

-- what is known after all arrivals
abbrev pub known_after : ℕ → List Arrival → Known
known_after f arrivals = known_from f nothing_known arrivals
