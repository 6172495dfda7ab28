use Rattle.std.proofs.Common.{Option, ap, ◌∙◌}
use Rattle.desk_ports.specs.Courses.{by_ending, texts_of}
use Rattle.flight_chain.specs.Recordings.{recording_walk}
use Rattle.param_table.specs.Tabling.{last_report_row}
use Rattle.param_table.proofs.TableCourses.{texts-table}
use Rattle.pocket_cmd.specs.declared.verbs.Verb.TheVariants.{Table}
use Rattle.pocket_cmd.specs.Words.{bits}
use Rattle.pocket_cmd.specs.Courses.{course_of, tabulation_by, DataFault}
use Rattle.pocket_cmd.proofs.laws.tables_owe_their_texts.Goals as goal

pub returns : goal.returns
returns c = λ t fields recording whole.
    let course = course_of (Table, t) fields recording in
    let columns = (tabulation_by t fields).columns in
    let packets = (recording_walk (bits t) recording).inputs in
    ap (λ (ending : Option DataFault). texts_of (by_ending ending course.before course.after)) (whole.ends fields) ∙ texts-table columns packets (last_report_row columns packets)
