-- What a desk over real files tells: of each inlet and outlet whether it was opened, and no content. And what it has
-- gathered, and what stands at each inlet and outlet.
use Rattle.std.specs.Prelude.{◌≡◌, Bool, true, false, not, IsFalse, ◌||◌, ◌&&◌, ℕ, List, [], Option, Some, None, codes, is_some}
use Rattle.std.specs.Bool.{OnFalse}
use Rattle.std.specs.Io.Buffered.{writer_buffer}
use Rattle.std.specs.Str.{bytes_eq}
use Rattle.desk_ports.specs.declared.desk.Inlet.{Inlet}
use Rattle.desk_ports.specs.declared.desk.Inlet.TheVariants as inlet
use Rattle.desk_ports.specs.declared.desk.Outlet.{Outlet}
use Rattle.desk_ports.specs.declared.desk.Outlet.TheVariants as outlet
use Rattle.desk_ports.specs.declared.file.FileDesk.{FileDesk}
use Rattle.desk_ports.specs.declared.part.Part.{Part}
use Rattle.desk_ports.specs.declared.part.Stage.{Stage}
use Rattle.desk_ports.specs.declared.part.Stage.TheVariants as stage
use Rattle.desk_ports.specs.declared.source.Source.{Source}
use Rattle.desk_ports.specs.declared.source.Source.TheVariants as source
use Rattle.desk_ports.specs.declared.sink.Sink.{Sink}
use Rattle.desk_ports.specs.declared.sink.Sink.TheVariants as sink
use Rattle.desk_ports.specs.Meanings.{Meanings, Counts, untold}

abbrev pub is_opened_source : Source → Bool
is_opened_source source.Nothing = false
is_opened_source (source.StandardInput stdin live) = true
is_opened_source (source.File file live) = true

abbrev pub is_opened_sink : Sink → Bool
is_opened_sink sink.Nothing = false
is_opened_sink (sink.StandardOutput stdout unfinished) = true
is_opened_sink (sink.File file part unfinished) = true

abbrev pub file_meanings : FileDesk → Meanings
file_meanings desk = untold (is_opened_source desk.side) (is_opened_source desk.input) (is_opened_sink desk.output) (is_opened_sink desk.report)

abbrev pub file_counts : FileDesk → Counts
file_counts desk = record { reads = desk.read_faults.count; writes = desk.write_faults.count }

-- the bytes that were written to a sink and not yet handed to the system
abbrev pub gathered : Sink → List ℕ
gathered sink.Nothing = []
gathered (sink.StandardOutput stdout unfinished) = writer_buffer stdout
gathered (sink.File file part unfinished) = writer_buffer file

-- those of an outlet
abbrev pub gathered_at : FileDesk → Outlet → List ℕ
gathered_at desk outlet.Main = gathered desk.output
gathered_at desk outlet.Report = gathered desk.report

-- nothing is gathered for either output
abbrev pub GathersNothing : FileDesk → Type 0
GathersNothing desk = (gathered_at desk outlet.Main ≡ []) × (gathered_at desk outlet.Report ≡ [])

-- whether a part waits for its name
abbrev pub waits : Sink → Bool
waits sink.Nothing = false
waits (sink.StandardOutput stdout unfinished) = false
waits (sink.File file part unfinished) = is_some part

-- the same for an outlet
abbrev pub waits_at : FileDesk → Outlet → Bool
waits_at desk outlet.Main = waits desk.output
waits_at desk outlet.Report = waits desk.report

-- the sink was opened, or written to, and not finished since
abbrev pub is_unfinished : Sink → Bool
is_unfinished sink.Nothing = false
is_unfinished (sink.StandardOutput stdout unfinished) = unfinished
is_unfinished (sink.File file part unfinished) = unfinished

-- the same of an outlet
abbrev pub unfinished_at : FileDesk → Outlet → Bool
unfinished_at desk outlet.Main = is_unfinished desk.output
unfinished_at desk outlet.Report = is_unfinished desk.report

-- the desk was told that the command has a report
abbrev pub expects_report : FileDesk → Bool
expects_report desk = desk.has_report

-- the command has a report, and an outlet is still to be opened
abbrev pub awaits_outlet : FileDesk → Bool
awaits_outlet desk = desk.has_report && (not (is_opened_sink desk.output) || not (is_opened_sink desk.report))

-- a part is written to
abbrev pub is_begun : Stage → Bool
is_begun stage.New = false
is_begun stage.Earlier = false
is_begun stage.Begun = true
is_begun stage.Seen = true

-- a part stood in its place when that was looked at
abbrev pub is_seen : Stage → Bool
is_seen stage.New = false
is_seen stage.Earlier = false
is_seen stage.Begun = false
is_seen stage.Seen = true

-- there is a part that takes no bytes yet, so that what stood in its place is still there
abbrev pub is_held_back : Option Part → Bool
is_held_back None = false
is_held_back (Some part) = not (is_begun part.stage)

-- the same of a sink, and of an outlet
abbrev pub holds_back : Sink → Bool
holds_back sink.Nothing = false
holds_back (sink.StandardOutput stdout unfinished) = false
holds_back (sink.File file part unfinished) = is_held_back part

abbrev pub holds_back_at : FileDesk → Outlet → Bool
holds_back_at desk outlet.Main = holds_back desk.output
holds_back_at desk outlet.Report = holds_back desk.report

-- if there is a part, it stood in its place when that was looked at
abbrev pub is_in_place : Option Part → Bool
is_in_place None = true
is_in_place (Some part) = is_seen part.stage

-- the same of a sink
abbrev pub stands : Sink → Bool
stands sink.Nothing = true
stands (sink.StandardOutput stdout unfinished) = true
stands (sink.File file part unfinished) = is_in_place part

-- nothing is gathered for either output, and each that was opened is finished
abbrev pub IsAllFinished : FileDesk → Type 0
IsAllFinished desk = GathersNothing desk × IsFalse (unfinished_at desk outlet.Main) × IsFalse (unfinished_at desk outlet.Report)

-- the source is standard input
abbrev pub is_standard_input : Source → Bool
is_standard_input source.Nothing = false
is_standard_input (source.StandardInput stdin live) = true
is_standard_input (source.File file live) = false

-- a read of the source may wait for bytes that are still to come
abbrev pub is_live : Source → Bool
is_live source.Nothing = false
is_live (source.StandardInput stdin live) = live
is_live (source.File file live) = live

-- the sink is standard output
abbrev pub is_standard_output : Sink → Bool
is_standard_output sink.Nothing = false
is_standard_output (sink.StandardOutput stdout unfinished) = true
is_standard_output (sink.File file part unfinished) = false

-- it is the name of standard input
abbrev pub names_standard_input : List ℕ → Bool
names_standard_input name = bytes_eq name (codes "-")

-- it is one of the four names of standard output
abbrev pub names_standard_output : List ℕ → Bool
names_standard_output name =
    bytes_eq name (codes "-") || bytes_eq name (codes "/dev/stdout") || bytes_eq name (codes "/dev/fd/1") || bytes_eq name (codes "/proc/self/fd/1")

-- where the bytes of an inlet come from
abbrev pub source_at : FileDesk → Inlet → Source
source_at desk inlet.Side = desk.side
source_at desk inlet.Main = desk.input

-- where the bytes of an outlet go
abbrev pub sink_at : FileDesk → Outlet → Sink
sink_at desk outlet.Main = desk.output
sink_at desk outlet.Report = desk.report

-- where the bytes of the other inlet come from
abbrev pub other_source : FileDesk → Inlet → Source
other_source desk inlet.Side = desk.input
other_source desk inlet.Main = desk.side

-- where the bytes of the other outlet go
abbrev pub other_sink : FileDesk → Outlet → Sink
other_sink desk outlet.Main = desk.report
other_sink desk outlet.Report = desk.output

-- both inlets are as before
abbrev pub SameInlets : FileDesk → FileDesk → Type 0
SameInlets old new = (new.side ≡ old.side) × (new.input ≡ old.input)

-- both outlets are as before
abbrev pub SameOutlets : FileDesk → FileDesk → Type 0
SameOutlets old new = (new.output ≡ old.output) × (new.report ≡ old.report)

-- a sink stays standard output, or a file, its part waits for its name and is begun as before, and it is finished if it was
pub record KeepsSink (old new : Sink) : Type 0 where
  pub standard : is_standard_output new ≡ is_standard_output old
  pub waits : waits new ≡ waits old
  pub held : holds_back new ≡ holds_back old
  pub unfinished : is_unfinished new ≡ is_unfinished old

-- a sink stays standard output, or a file, its part waits for its name as before, it is finished if it was, and it has gathered
-- what it had
pub record IsSteady (old new : Sink) : Type 0 where
  pub standard : is_standard_output new ≡ is_standard_output old
  pub waits : waits new ≡ waits old
  pub unfinished : is_unfinished new ≡ is_unfinished old
  pub gathered : gathered new ≡ gathered old

-- both outlets are kept
abbrev pub KeepsOutlets : FileDesk → FileDesk → Type 0
KeepsOutlets old new = KeepsSink old.output new.output × KeepsSink old.report new.report

-- a writing failed while something else was done, and no call has answered for it
abbrev pub is_pending : FileDesk → Bool
is_pending desk = desk.write_faults.pending

-- what was gathered for both outputs was handed to the system, or a failed writing is pending
abbrev pub IsHandedOn : FileDesk → Type 0
IsHandedOn desk = OnFalse (is_pending desk) (GathersNothing desk)
