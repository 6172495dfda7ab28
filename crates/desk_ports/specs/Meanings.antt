-- What a desk means: the bytes that come and go, also those read ahead, the names, and what each call does to them; and why a run ended.
use Rattle.std.specs.Cmp.Lexicographic.{slice_cmp}
use Rattle.std.specs.FinMap as map
use Rattle.std.specs.Io.KnownBytes.{prepend_known, append_known}
use Rattle.std.specs.Option.{option_map}
use Rattle.std.specs.Ordering.{nat_cmp}
use Rattle.std.specs.Prelude.{◌≡◌, ℕ, ◌+◌, ◌-◌, ◌^◌, ◌<◌, ◌≤◌, ◌⊎◌, min, Bool, true, false, IsTrue, List, [], ◌++◌, Option, Some, None, Result, Ok, Err, IfSome, unwrap_or}
use Rattle.desk_ports.specs.declared.desk.Inlet.{Inlet}
use Rattle.desk_ports.specs.declared.desk.Inlet.TheVariants as inlet
use Rattle.desk_ports.specs.declared.desk.Outlet.{Outlet}
use Rattle.desk_ports.specs.declared.desk.Outlet.TheVariants as outlet

-- ---- what a desk means: the bytes that come and go, the names, and what each call does to them

-- an input: the bytes still to come, if the desk tells them, and whether it was opened
pub record Incoming : Type 0 where
  pub left : Option (List ℕ)
  pub ready : Bool

-- an output: the bytes written since it was opened and the name that it has, if the desk tells them, and whether it was
-- opened
pub record Outgoing : Type 0 where
  pub made : Option (List ℕ)
  pub name : Option (List ℕ)
  pub ready : Bool

-- the bytes that are kept under names; a name is the bytes of its text
abbrev pub Kept : Type 0
Kept = map.FinMap (slice_cmp nat_cmp) (List ℕ)

-- what is kept under a name, or nothing if the name was never kept
abbrev pub kept_at : Kept → List ℕ → List ℕ
kept_at kept name = unwrap_or (map.get kept name) []

-- all that a desk tells
pub record Meanings : Type 0 where
  pub side : Incoming
  pub input : Incoming
  pub output : Outgoing
  pub report : Outgoing
  pub held : Option Kept
  pub grants_in : List ℕ → Bool
  pub grants_out : List ℕ → Bool

-- how often reading and writing have failed
pub record Counts : Type 0 where
  pub reads : ℕ
  pub writes : ℕ

abbrev pub incoming : Meanings → Inlet → Incoming
incoming m inlet.Side = m.side
incoming m inlet.Main = m.input

abbrev pub with_incoming : Meanings → Inlet → Incoming → Meanings
with_incoming m inlet.Side i = record m { side = i }
with_incoming m inlet.Main i = record m { input = i }

abbrev pub outgoing : Meanings → Outlet → Outgoing
outgoing m outlet.Main = m.output
outgoing m outlet.Report = m.report

abbrev pub with_outgoing : Meanings → Outlet → Outgoing → Meanings
with_outgoing m outlet.Main o = record m { output = o }
with_outgoing m outlet.Report o = record m { report = o }

-- the bytes still to come at an inlet
abbrev pub left : Meanings → Inlet → Option (List ℕ)
left m i = (incoming m i).left

abbrev pub with_left : Meanings → Inlet → Option (List ℕ) → Meanings
with_left m i bytes = with_incoming m i (record (incoming m i) { left = bytes })

-- the bytes written to an outlet since it was opened
abbrev pub made : Meanings → Outlet → Option (List ℕ)
made m o = (outgoing m o).made

abbrev pub with_made : Meanings → Outlet → Option (List ℕ) → Meanings
with_made m o bytes = with_outgoing m o (record (outgoing m o) { made = bytes })

-- the inlet was opened
abbrev pub IsReadyIn : Meanings → Inlet → Type 0
IsReadyIn m i = IsTrue (incoming m i).ready

-- the outlet was opened
abbrev pub IsReadyOut : Meanings → Outlet → Type 0
IsReadyOut m o = IsTrue (outgoing m o).ready

-- opening an inlet: what is left of it is what is kept under the name, and nothing else changed
pub record Opens (old new : Meanings) (i : Inlet) (name : List ℕ) : Type 0 where
  pub bytes : List ℕ
  pub kept : IfSome old.held (λ kept. bytes ≡ kept_at kept name)
  pub others : new ≡ with_incoming old i (record { left = option_map (λ _. bytes) (left old i); ready = true })

-- opening an outlet: it is empty and has this name, and nothing else changed
abbrev pub Begins : Meanings → Meanings → Outlet → List ℕ → Type 0
Begins old new o name =
    new ≡ with_outgoing old o (record { made = option_map (λ _. []) (made old o); name = option_map (λ _. name) (outgoing old o).name; ready = true })

-- these bytes were taken from the front of what an inlet had left, and nothing else changed
pub record Moves (old new : Meanings) (i : Inlet) (bytes : List ℕ) : Type 0 where
  pub moved : left old i ≡ prepend_known bytes (left new i)
  pub others : new ≡ with_left old i (left new i)

-- these bytes were added to the end of what an outlet made, and nothing else changed
pub record Adds (old new : Meanings) (o : Outlet) (bytes : List ℕ) : Type 0 where
  pub added : made new o ≡ append_known (made old o) bytes
  pub others : new ≡ with_made old o (made new o)

-- a prefix of these bytes was added to the end of what an outlet made, and nothing else changed
pub record AddsFront (old new : Meanings) (o : Outlet) (bytes : List ℕ) : Type 0 where
  pub front : List ℕ
  pub rest : List ℕ
  pub joined : front ++ rest ≡ bytes
  pub added : Adds old new o front

-- what is kept once an outlet is finished, if the desk tells all three parts
abbrev pub kept_after : Option Kept → Option (List ℕ) → Option (List ℕ) → Option Kept
kept_after (Some kept) (Some name) (Some made) = Some (map.insert kept name made)
kept_after (Some kept) (Some name) None = None
kept_after (Some kept) None made = None
kept_after None name made = None

-- finishing an outlet: what it made is kept under its name, and nothing else changed
abbrev pub Keeps : Meanings → Meanings → Outlet → Type 0
Keeps old new o = new ≡ record old { held = kept_after old.held (outgoing old o).name (made old o) }

-- the next value of a count, which stays at its last value
abbrev pub next_count : ℕ → ℕ
next_count n = min (n + 1) (2 ^ 64 - 1)

-- a count rose, or it is at its last value
abbrev pub Rose : ℕ → ℕ → Type 0
Rose old new = next_count old ≤ new

-- a read failed: that is counted, once, and nothing else
abbrev pub FailsToRead : Counts → Counts → Type 0
FailsToRead old new = new ≡ record old { reads = next_count old.reads }

-- a write failed: that is counted, once, and nothing else
abbrev pub FailsToWrite : Counts → Counts → Type 0
FailsToWrite old new = new ≡ record old { writes = next_count old.writes }

-- a call failed: that is counted, once, and nothing else
abbrev pub Fails : Counts → Counts → Type 0
Fails old new = FailsToRead old new ⊎ FailsToWrite old new

-- how often the desk has failed
abbrev pub faults : Counts → ℕ
faults counts = counts.reads + counts.writes

-- neither count is at its last value
pub record AreBelowLast (counts : Counts) : Type 0 where
  pub reads : counts.reads < 2 ^ 64 - 1
  pub writes : counts.writes < 2 ^ 64 - 1

-- after a call that reads: Err comes only if a read failed, and otherwise both counts are as before
abbrev pub HasReadCause : {T E : Type 0} → Counts → Counts → Result T E → Type 0
HasReadCause old new (Ok done) = new ≡ old
HasReadCause old new (Err failed) = FailsToRead old new

-- after a call that writes: Err comes only if a write failed, and otherwise both counts are as before
abbrev pub HasWriteCause : {T E : Type 0} → Counts → Counts → Result T E → Type 0
HasWriteCause old new (Ok done) = new ≡ old
HasWriteCause old new (Err failed) = FailsToWrite old new

-- the meanings of a desk that tells no content and grants every name, in terms of what was opened
abbrev pub untold : Bool → Bool → Bool → Bool → Meanings
untold side input output report = record {
  side = record { left = None; ready = side };
  input = record { left = None; ready = input };
  output = record { made = None; name = None; ready = output };
  report = record { made = None; name = None; ready = report };
  held = None;
  grants_in = λ _. true;
  grants_out = λ _. true;
}

-- the same if nothing was opened
abbrev pub nothing_told : Meanings
nothing_told = untold false false false false

-- ---- why a run over a desk ended before it was done

-- its data have a fault, or the desk failed to read or to write
pub data Stop (F : Type 0) : Type 0 where
  Data : F → Stop F
  ReadFault : Stop F
  WriteFault : Stop F

-- ---- bytes of the main input that are read ahead of what is used

-- Bytes were moved from the main input: they come after those that were ahead, and nothing else changed.
pub record ReadsOn (before after : List ℕ) (old new : Meanings) : Type 0 where
  pub bytes : List ℕ
  pub joined : after ≡ before ++ bytes
  pub moved : Moves old new inlet.Main bytes

-- the bytes that are ahead begin and end within the room, and there is never more room, so that no memory is taken
pub record IsAhead (next filled room capacity : ℕ) : Type 0 where
  pub ordered : next ≤ filled
  pub within : filled ≤ room
  pub whole : room ≡ 131072
  pub taken : capacity ≡ 131072
