use Rattle.bit_vectors.proofs.ExactReading.{matched, matched_only, matched_fault}
use Rattle.bit_vectors.specs.Vectors.{number_bits}
use Rattle.bit_vectors.proofs.eye.BitEye.match_word.Goals as goal

pub returns-clause-word : goal.returns-clause-word
returns-clause-word c = matched (number_bits c.args.width c.args.value) c.args.self.now c.match_ahead.new.self c.match_ahead.result c.match_ahead.ensures.reading

pub returns-clause-only : goal.returns-clause-only
returns-clause-only c = matched_only (number_bits c.args.width c.args.value) c.args.self.now c.match_ahead.new.self c.match_ahead.result c.match_ahead.ensures.reading

pub returns-clause-fault : goal.returns-clause-fault
returns-clause-fault c = matched_fault (number_bits c.args.width c.args.value) c.args.self.now c.match_ahead.new.self c.match_ahead.result c.match_ahead.ensures.moves c.match_ahead.ensures.reading
