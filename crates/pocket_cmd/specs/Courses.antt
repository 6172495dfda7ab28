-- What each command is to do, and what may be wrong with its data.
use Rattle.std.specs.Option.{option_map}
use Rattle.std.specs.Prelude.{ℕ, List, [], Option, Some, None}
use Rattle.desk_ports.specs.Courses.{Course, to_output}
use Rattle.desk_ports.specs.Meanings.{Stop, Data, ReadFault, WriteFault}
use Rattle.side_tables.specs.Grammar.{schedule_rows_of, copy_rows_of, bad_schedule_row, bad_copy_row}
use Rattle.side_tables.specs.Rows.{copies_of}
use Rattle.side_tables.specs.Streams.{bad_stream_row, streams_of}
use Rattle.packet_store.specs.declared.fault.StoreKind.{StoreKind}
use Rattle.packet_store.specs.declared.fault.WalkFault.{WalkFault}
use Rattle.packet_store.specs.declared.fault.WalkFault.TheVariants as walk_fault
use Rattle.flight_chain.specs.Compressing.{Compression, compress_course}
use Rattle.flight_chain.specs.declared.fault.RecordFault.{RecordFault}
use Rattle.flight_chain.specs.declared.fault.RecordFault.TheVariants as record_fault
use Rattle.loss_player.specs.Playing.{play_course}
use Rattle.ground_chain.specs.Listing.{listing_course}
use Rattle.ground_chain.specs.Restoring.{restore_course}
use Rattle.multi_ground.specs.MultiOutputs.{multi_course}
use Rattle.late_window.specs.Restoring.{late_course}
use Rattle.param_table.specs.Rows.{bad_text_row, text_columns}
use Rattle.param_table.specs.Tabling.{Tabulation, table_course}
use Rattle.forecast.specs.Outlooks.{forecast_text}
use Rattle.forecast.specs.Prospects.{prospect_of}
use Rattle.pocket_cmd.specs.Command.{Command}
use Rattle.pocket_cmd.specs.Summary.{summary_by}
use Rattle.pocket_cmd.specs.Words.{Words, apid, bits, mask, packets, robust, window}
use Rattle.pocket_cmd.specs.declared.verbs.Verb.{Verb}
use Rattle.pocket_cmd.specs.declared.verbs.Verb.TheVariants.{Compress, Play, Restore, Show, Trial, Multi, Late, Table, Forecast}

-- ---- what may be wrong with the data of a command, and why a run over them ended

-- Why a recording or a store is not read to its end: the recording ends inside a packet, or has a spare bit set in it; the
-- store has no good packet from a byte on; a byte follows the 4,294,967,296th packet.
pub data DataFault : Type 0 where
  CutRecord : ℕ → DataFault
  SpareBit : ℕ → DataFault
  BadStore : ℕ → StoreKind → DataFault
  TooMany : DataFault

-- the fault of a recording, and of a store
abbrev pub of_recording : RecordFault → DataFault
of_recording (record_fault.CutRecord t) = CutRecord t
of_recording (record_fault.SpareBit t) = SpareBit t
of_recording record_fault.TooMany = TooMany

abbrev pub of_store : WalkFault → DataFault
of_store (walk_fault.Bad byte kind) = BadStore byte kind
of_store walk_fault.TooMany = TooMany

-- the same reason to end a run, its fault named otherwise
abbrev pub stop_with : {F G : Type 0} → (F → G) → Stop F → Stop G
stop_with name (Data fault) = Data (name fault)
stop_with name ReadFault = ReadFault
stop_with name WriteFault = WriteFault

-- ---- what each command is to do

-- the same course, its fault named otherwise
abbrev pub with_fault : {F G : Type 0} → (F → G) → Course F → Course G
with_fault name course = record { before = course.before; after = course.after; ending = option_map name course.ending }

-- what `compress` is told by its words, if its schedule has this text
abbrev pub compression_by : Words → List ℕ → Compression
compression_by words text = record { places = bits words; robust = robust words; apid = apid words; mask = mask words; rows = schedule_rows_of text }

-- what `table` is told by its words, if its fields have this text
abbrev pub tabulation_by : Words → List ℕ → Tabulation
tabulation_by words text = record { places = bits words; columns = text_columns (bits words) text }

-- a text is owed, whatever the input is
abbrev pub text_course : List ℕ → Course DataFault
text_course text = record { before = []; after = to_output text; ending = None }

-- the text of a forecast under a schedule and a script of these texts
abbrev pub forecast_by_texts : Words → List ℕ → List ℕ → List ℕ
forecast_by_texts words plan script = forecast_text (prospect_of (schedule_rows_of plan) (robust words) (copy_rows_of script)) (packets words)

-- What a command is to do: the number of the first record of a side text that is no row, the same of an input that is a text too,
-- and what it owes, by the text of its side input, for an input.
pub record Errand : Type 0 where
  pub bad_row : List ℕ → Option ℕ
  pub bad_script_row : Option (List ℕ → Option ℕ)
  pub course : List ℕ → List ℕ → Course DataFault

-- a command without a side input has no row that is bad
abbrev no_row : List ℕ → Option ℕ
no_row text = None

-- its input, if it has one, is read as the run goes
abbrev streamed : (List ℕ → Option ℕ) → (List ℕ → List ℕ → Course DataFault) → Errand
streamed bad_row course = record { bad_row = bad_row; bad_script_row = None; course = course }

abbrev pub errand_of : Verb → Words → Errand
errand_of Compress words = streamed bad_schedule_row (λ text input. with_fault of_recording (compress_course (compression_by words text) input))
errand_of Play words = streamed bad_copy_row (λ text input. with_fault of_store (play_course (copies_of (copy_rows_of text)) (apid words) input))
errand_of Restore words = streamed no_row (λ text input. with_fault of_store (restore_course (bits words) (apid words) input))
errand_of Show words = streamed no_row (λ text input. with_fault of_store (listing_course (bits words) (apid words) input))
errand_of Trial words = streamed no_row (λ text input. text_course (summary_by words))
errand_of Multi words = streamed bad_stream_row (λ text input. with_fault of_store (multi_course (streams_of text) input))
errand_of Late words = streamed no_row (λ text input. with_fault of_store (late_course (bits words) (apid words) (window words) input))
errand_of Table words = streamed (bad_text_row (bits words)) (λ text input. with_fault of_recording (table_course (tabulation_by words text) input))
errand_of Forecast words = record { bad_row = bad_schedule_row; bad_script_row = Some bad_copy_row; course = λ plan script. text_course (forecast_by_texts words plan script) }

abbrev pub bad_row_of : Command → List ℕ → Option ℕ
bad_row_of command text = (errand_of command.0 command.1).bad_row text

-- of an input that is a text, which is read whole before all memory is taken; None if it is read as the run goes
abbrev pub bad_script_row_of : Command → Option (List ℕ → Option ℕ)
bad_script_row_of command = (errand_of command.0 command.1).bad_script_row

abbrev pub course_of : Command → List ℕ → List ℕ → Course DataFault
course_of command text input = (errand_of command.0 command.1).course text input
