use Rattle.bit_vectors.proofs.ExactReading.{fault_by}
use Rattle.run_code.specs.Extraction.{IsInverseWord, parse_inverse}
use Rattle.run_code.proofs.InverseBits.{IsExact-inverse_at, inverse_taken, inverse_within, inverse_one, inverse_wrong, inverse_early}
use Rattle.run_code.proofs.inverse.take_inverse_up.Goals as goal

pub returns-clause-taken : goal.returns-clause-taken
returns-clause-taken c = inverse_taken c.args.x.now c.read_inverse.new.into c.requires.some c.args.eye.now c.read_inverse.new.eye c.read_inverse.result c.read_inverse.ensures.reading

pub returns-clause-within : goal.returns-clause-within
returns-clause-within c = inverse_within c.args.x.now c.read_inverse.new.into c.requires.some c.args.eye.now c.read_inverse.new.eye c.read_inverse.result c.read_inverse.ensures.reading

pub returns-clause-one : goal.returns-clause-one
returns-clause-one c = inverse_one c.args.x.now c.read_inverse.new.into c.requires.some c.args.eye.now c.read_inverse.new.eye c.read_inverse.result c.read_inverse.ensures.reading

pub returns-clause-wrong : goal.returns-clause-wrong
returns-clause-wrong c =
    inverse_wrong c.args.x.now c.read_inverse.new.into c.requires.some c.args.eye.now c.read_inverse.new.eye c.read_inverse.ensures.moves c.read_inverse.result c.read_inverse.ensures.reading

pub returns-clause-early : goal.returns-clause-early
returns-clause-early c =
    inverse_early c.args.x.now c.read_inverse.new.into c.requires.some c.args.eye.now c.read_inverse.new.eye c.read_inverse.ensures.moves c.read_inverse.result c.read_inverse.ensures.reading

pub returns-clause-fault : goal.returns-clause-fault
returns-clause-fault c =
    fault_by (IsInverseWord c.args.x.now) (parse_inverse c.args.x.now) (IsExact-inverse_at c.args.x.now c.requires.some) (λ (u : Unit {0}). c.read_inverse.new.into) c.args.eye.now c.read_inverse.new.eye c.read_inverse.result c.read_inverse.ensures.moves c.read_inverse.ensures.reading
