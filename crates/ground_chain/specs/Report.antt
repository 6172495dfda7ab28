-- What is written of a run: the restored packets and the report, what an account writes, and of which numbers the verdicts tell.
use Rattle.std.specs.Fmt.{decimal}
use Rattle.std.specs.List.{flat_map, count_by, sum_by, range_with_len}
use Rattle.std.specs.Option.{option_map}
use Rattle.std.specs.Prelude.{◌≡◌, ℕ, ◌+◌, ◌-◌, ◌*◌, ◌^◌, ◌<◌, ◌≤◌, IfSome, Bool, true, false, ◌||◌, if◌then◌else◌, List, [], ◌++◌, length, codes, Option, Some, None, ◌∷◌, All}
use Rattle.bit_vectors.specs.Vectors.{vector_bytes}
use Rattle.bit_vectors.specs.declared.fault.BitFault.TheVariants.{Wrong, EndsEarly}
use Rattle.desk_ports.specs.Courses.{Outputs}
use Rattle.packet_store.specs.SpacePackets.{period}
use Rattle.packet_decode.specs.State.{KnownVector, State}
use Rattle.ground_chain.specs.Run.{Judged, Arrival}
use Rattle.ground_chain.specs.declared.restored.Restored.{Restored}
use Rattle.ground_chain.specs.declared.verdict.Kind.{Kind}
use Rattle.ground_chain.specs.declared.verdict.Kind.TheVariants.{Written, Repeat, Unsynced, Gap, Refused}
use Rattle.ground_chain.specs.declared.verdict.Lost.{Lost}
use Rattle.ground_chain.specs.declared.verdict.Verdict.{Verdict}

-- ---- kinds of verdicts

abbrev pub is_written_kind : Kind → Bool
is_written_kind Written = true
is_written_kind Repeat = false
is_written_kind (Unsynced mask) = false
is_written_kind (Gap level mask) = false
is_written_kind (Refused fault) = false

abbrev pub is_repeat : Kind → Bool
is_repeat Written = false
is_repeat Repeat = true
is_repeat (Unsynced mask) = false
is_repeat (Gap level mask) = false
is_repeat (Refused fault) = false

-- it arrived for the first time and is not written
abbrev pub is_unwritten : Kind → Bool
is_unwritten Written = false
is_unwritten Repeat = false
is_unwritten (Unsynced mask) = true
is_unwritten (Gap level mask) = true
is_unwritten (Refused fault) = true

-- its mask became known and its content did not
abbrev pub tells_mask_alone : Kind → Bool
tells_mask_alone Written = false
tells_mask_alone Repeat = false
tells_mask_alone (Unsynced mask) = mask
tells_mask_alone (Gap level mask) = mask
tells_mask_alone (Refused fault) = false

-- its mask or its content became known
abbrev pub is_told : Kind → Bool
is_told kind = is_written_kind kind || tells_mask_alone kind

-- ---- restored packets

abbrev pub known_bytes : Option KnownVector → List ℕ
known_bytes None = []
known_bytes (Some known) = vector_bytes known.vector

abbrev pub content_bytes : State → List ℕ
content_bytes state = known_bytes state.content

-- the content of a written packet, in whole bytes with spare bits 0, and nothing for any other arrival
abbrev pub written_bytes : Judged → List ℕ
written_bytes judged = if is_written_kind judged.verdict.kind then content_bytes judged.after.state else []

-- a content is known, which has f places
abbrev pub HasContent : ℕ → State → Type 0
HasContent f state = option_map (λ (known : KnownVector). length known.vector) state.content ≡ Some f

-- the restored packets of a run
abbrev pub run_bytes : List Judged → List ℕ
run_bytes judged = flat_map written_bytes judged

-- ---- report

-- the report's first line
abbrev pub header_row : List ℕ
header_row = codes "first,last,cause,value\n"

-- the row of the numbers that did not arrive
abbrev pub lost_row : Option Lost → List ℕ
lost_row None = []
lost_row (Some lost) = decimal lost.first ++ codes "," ++ decimal lost.last ++ codes ",lost,0\n"

-- a row of one number, with its cause and what belongs to that
abbrev pub number_row : ℕ → List ℕ → ℕ → List ℕ
number_row t cause value = decimal t ++ codes "," ++ decimal t ++ codes "," ++ cause ++ codes "," ++ decimal value ++ codes "\n"

-- the row of an arrival that was not written
abbrev pub own_row : ℕ → Kind → List ℕ
own_row t Written = []
own_row t Repeat = []
own_row t (Unsynced mask) = number_row t (codes "unsynced") 0
own_row t (Gap level mask) = number_row t (codes "gap") level
own_row t (Refused (Wrong bit)) = number_row t (codes "wrong") bit
own_row t (Refused (EndsEarly bit)) = number_row t (codes "early") bit

-- the rows of a verdict: what was lost before the arrival, and then itself
abbrev pub verdict_rows : Verdict → List ℕ
verdict_rows verdict = lost_row verdict.lost ++ own_row verdict.t verdict.kind

-- the rows of a run, arrival by arrival
abbrev pub run_rows : List Judged → List ℕ
run_rows judged = flat_map (λ j. verdict_rows j.verdict) judged

-- what belongs to the cause of an arrival that is not written
abbrev pub kind_value : Kind → ℕ
kind_value Written = 0
kind_value Repeat = 0
kind_value (Unsynced mask) = 0
kind_value (Gap level mask) = level
kind_value (Refused (Wrong bit)) = bit
kind_value (Refused (EndsEarly bit)) = bit

-- the numbers in the rows of a verdict are numbers of 64 bits
pub record HasRowNumbers (verdict : Verdict) : Type 0 where
  pub lost : IfSome verdict.lost (λ lost. (lost.first < 2 ^ 64) × (lost.last < 2 ^ 64))
  pub number : verdict.t < 2 ^ 64
  pub value : kind_value verdict.kind < 2 ^ 64

-- ---- numbers

abbrev pub lost_count : Option Lost → ℕ
lost_count None = 0
lost_count (Some lost) = lost.last - lost.first + 1

-- how many numbers a verdict lists as not written
abbrev pub listed_by : Verdict → ℕ
listed_by verdict = lost_count verdict.lost + (if is_unwritten verdict.kind then 1 else 0)

-- The numbers of a run: its arrivals, the written packets, the repeats, and the packets up to the last arrival that are
-- not written.
abbrev pub restored_of : List Judged → Restored
restored_of judged = record {
  packets = length judged;
  written = count_by (λ j. is_written_kind j.verdict.kind) judged;
  repeats = count_by (λ j. is_repeat j.verdict.kind) judged;
  listed = sum_by (λ j. listed_by j.verdict) judged;
}

-- the numbers are within their limits, which the number of arrivals sets
abbrev pub IsRestored : Restored → Type 0
IsRestored r = (r.written ≤ r.packets) × (r.repeats ≤ r.packets) × (r.listed ≤ 2 ^ 14 * r.packets)

-- the numbers of one part of a run and of another
abbrev pub added : Restored → Restored → Restored
added first more = record {
  packets = first.packets + more.packets;
  written = first.written + more.written;
  repeats = first.repeats + more.repeats;
  listed = first.listed + more.listed;
}

-- the numbers of one arrival
abbrev pub restored_by : Verdict → Restored
restored_by verdict = record {
  packets = 1;
  written = if is_written_kind verdict.kind then 1 else 0;
  repeats = if is_repeat verdict.kind then 1 else 0;
  listed = listed_by verdict;
}

-- the report's last row: arrivals, written packets and repeats
abbrev pub end_row : Restored → List ℕ
end_row r = codes "end," ++ decimal r.packets ++ codes "," ++ decimal r.written ++ codes "," ++ decimal r.repeats ++ codes "\n"

-- the report of a run
abbrev pub run_report : List Judged → List ℕ
run_report judged = header_row ++ run_rows judged ++ end_row (restored_of judged)

-- ---- what an account writes of a run over arrivals

-- what is written of each judged arrival, and finally of the numbers of the run
pub record Texts : Type 0 where
  pub parts : Judged → Outputs
  pub last : Restored → Outputs

-- what is written of a run, arrival by arrival
abbrev pub all_parts : Texts → List Judged → Outputs
all_parts texts judged = flat_map texts.parts judged

-- ---- which numbers the verdicts of a run tell of

-- the counts of arrivals are sequence counts
abbrev pub AreArrivals : List Arrival → Type 0
AreArrivals arrivals = All (λ a. a.count < period) arrivals

abbrev pub lost_numbers : Option Lost → List ℕ
lost_numbers None = []
lost_numbers (Some lost) = range_with_len lost.first (lost.last - lost.first + 1)

-- the numbers that a verdict tells of: the lost ones, and then its own if it is no repeat
abbrev pub numbers_of : Verdict → List ℕ
numbers_of verdict = lost_numbers verdict.lost ++ (if is_repeat verdict.kind then [] else verdict.t ∷ [])

-- those of a run, in order
abbrev pub run_numbers : List Judged → List ℕ
run_numbers judged = flat_map (λ j. numbers_of j.verdict) judged
