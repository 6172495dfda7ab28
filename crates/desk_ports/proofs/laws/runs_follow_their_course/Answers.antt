use Rattle.desk_ports.proofs.Courses.{Ends-told, Finishes-told}
use Rattle.desk_ports.proofs.laws.runs_follow_their_course.Goals as goal

pub returns-clause-written : goal.returns-clause-written
returns-clause-written g c = Ends-told

pub returns-clause-answer : goal.returns-clause-answer
returns-clause-answer g c = Finishes-told
