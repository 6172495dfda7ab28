use Rattle.bit_vectors.proofs.ExactReading.{fault_by}
use Rattle.std.proofs.Common.{length}
use Rattle.run_code.specs.Runs.{IsRunWordOf, parse_vector}
use Rattle.run_code.proofs.RunWords.{IsExact-vector_at, run_taken, run_only}
use Rattle.run_code.proofs.runs.take_runs.Goals as goal

pub returns-clause-word : goal.returns-clause-word
returns-clause-word c =
    run_taken (length c.args.into.now) c.read_runs.new.into c.args.eye.now c.read_runs.new.eye c.read_runs.result c.read_runs.ensures.reading

pub returns-clause-only : goal.returns-clause-only
returns-clause-only c =
    λ v rest len parts. run_only (length c.args.into.now) c.read_runs.new.into c.args.eye.now c.read_runs.new.eye c.read_runs.result c.read_runs.ensures.reading v rest len parts

pub returns-clause-fault : goal.returns-clause-fault
returns-clause-fault c =
    fault_by (IsRunWordOf (length c.args.into.now)) (parse_vector (length c.args.into.now)) (IsExact-vector_at (length c.args.into.now)) (λ (u : Unit {0}). c.read_runs.new.into) c.args.eye.now c.read_runs.new.eye c.read_runs.result c.read_runs.ensures.moves c.read_runs.ensures.reading
