use Rattle.std.proofs.Common.{◌≡◌, ℕ, ◌<◌, ◌≤◌, List, length, None, subst}
use Rattle.desk_ports.specs.Courses.{Outputs, owed, texts_of}
use Rattle.packet_store.specs.Walks.{walk}
use Rattle.side_tables.specs.Streams.{no_stream, stream_at, streams_of}
use Rattle.side_tables.specs.Texts.{records_of}
use Rattle.side_tables.proofs.StreamRows.{rows_of-streams}
use Rattle.multi_ground.specs.Apart.{HasStream}
use Rattle.multi_ground.specs.MultiOutputs.{multi_course}
use Rattle.multi_ground.proofs.MultiRuns.{restored-played}
use Rattle.multi_ground.proofs.StreamsApart.{owed-store, owed-stream}
use Rattle.pocket_cmd.specs.declared.verbs.Verb.TheVariants.{Multi}
use Rattle.pocket_cmd.specs.Words.{Words}
use Rattle.pocket_cmd.specs.Courses.{course_of, of_store}
use Rattle.pocket_cmd.specs.Delivery.{IsInputWhole}
use Rattle.pocket_cmd.proofs.Faults.{owed-with_fault, unmapped}
use Rattle.pocket_cmd.proofs.laws.streams_are_restored_apart.Goals as goal

-- the walk of a whole input is whole
whole_walk : (m : Words) (text store : List ℕ) → IsInputWhole (Multi, m) store → (walk None store).ending ≡ None
whole_walk m text store whole = unmapped of_store (walk None store).ending (whole.ends text)

-- and all that it owes is what the streams owe
same_owed : (m : Words) (text store : List ℕ) → owed (multi_course (streams_of text) store) ≡ owed (course_of (Multi, m) text store)
same_owed m text store = owed-with_fault of_store (multi_course (streams_of text) store)

pub returns-clause-whole : goal.returns-clause-whole
returns-clause-whole c = λ m text store bytes whole.
    subst (λ (o : Outputs). (walk None (texts_of o).output).ending ≡ None) (same_owed m text store) (owed-store (streams_of text) (rows_of-streams (records_of text)) store bytes (whole_walk m text store whole))

pub returns-clause-each : goal.returns-clause-each
returns-clause-each c = λ m text store index bytes whole within.
    subst (λ (o : Outputs). HasStream (stream_at (streams_of text) index) store (texts_of o).output (texts_of o).report) (same_owed m text store)
    (owed-stream (streams_of text) (rows_of-streams (records_of text)) store bytes (whole_walk m text store whole) index within)

-- a stream has an APID of packets
apid_most : (text : List ℕ) (index : ℕ) → index < length (streams_of text) → (stream_at (streams_of text) index).apid ≤ 2046
apid_most text index within = ((rows_of-streams (records_of text)).right index no_stream within).apid

pub returns-clause-restored : goal.returns-clause-restored
returns-clause-restored c = λ m text store index h copies bytes whole within valid places short few arrive.
    restored-played (stream_at (streams_of text) index) store _ _ h copies (returns-clause-each c m text store index bytes whole within) (apid_most text index within) valid places short few arrive
