use Rattle.std.proofs.Common.{◌++◌, ap, ◌∙◌, arith}
use Rattle.desk_ports.specs.Courses.{by_ending, texts_of, to_report}
use Rattle.flight_chain.specs.Recordings.{RecordingWalk, recording_walk}
use Rattle.flight_chain.proofs.Recordings.{recording_walk_from-recording_of}
use Rattle.param_table.specs.Tabling.{headers, last_report_row, packets_texts}
use Rattle.param_table.proofs.TableCourses.{texts-before, texts-table}
use Rattle.param_table.proofs.laws.whole_recordings_owe_their_texts.Goals as goal

pub returns-clause-before : goal.returns-clause-before
returns-clause-before c = λ k recording. texts-before k.columns (recording_walk k.places recording).inputs

pub returns-clause-whole : goal.returns-clause-whole
returns-clause-whole c = λ k packets some all few.
    ap (λ (w : RecordingWalk). texts_of (by_ending w.ending (headers k.columns ++ packets_texts k.columns 0 w.inputs) (to_report (last_report_row k.columns w.inputs)))) (recording_walk_from-recording_of k.places 0 packets some all (omega arith))
    ∙ texts-table k.columns packets (last_report_row k.columns packets)
