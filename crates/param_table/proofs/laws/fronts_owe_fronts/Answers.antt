use Rattle.std.proofs.Common.{◌+◌, ◌++◌, length, sym, ap, ◌∙◌, append_assoc, arith}
use Rattle.desk_ports.specs.Courses.{Outputs}
use Rattle.flight_chain.specs.Recordings.{recording_walk}
use Rattle.flight_chain.proofs.Recordings.{IsLonger-recording}
use Rattle.param_table.specs.Tabling.{headers, packet_texts, packets_texts}
use Rattle.param_table.proofs.TableCourses.{texts-append}
use Rattle.param_table.proofs.laws.fronts_owe_fronts.Goals as goal

pub returns : goal.returns
returns c = λ k front rest some.
    let longer = IsLonger-recording (length front) k.places 0 front rest (omega arith) some (omega arith) in
    let inputs = (recording_walk k.places front).inputs in
    record {
      rest = packets_texts k.columns (0 + length inputs) longer.later;
      joined = append_assoc (headers k.columns) (packets_texts k.columns 0 inputs) (packets_texts k.columns (0 + length inputs) longer.later)
          ∙ ap (λ (o : Outputs). headers k.columns ++ o) (sym (texts-append (packet_texts k.columns) 0 inputs longer.later) ∙ ap (packets_texts k.columns 0) (sym longer.joined));
    }
