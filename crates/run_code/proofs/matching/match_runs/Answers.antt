use Rattle.run_code.specs.Runs.{run_bits}
use Rattle.bit_vectors.proofs.ExactReading.{matched, matched_only, matched_fault}
use Rattle.run_code.proofs.matching.match_runs.Goals as goal

pub returns-clause-word : goal.returns-clause-word
returns-clause-word c = matched (run_bits c.args.v.now) c.args.eye.now c.match_words.new.eye c.match_words.result c.match_words.ensures.reading

pub returns-clause-only : goal.returns-clause-only
returns-clause-only c = matched_only (run_bits c.args.v.now) c.args.eye.now c.match_words.new.eye c.match_words.result c.match_words.ensures.reading

pub returns-clause-fault : goal.returns-clause-fault
returns-clause-fault c = matched_fault (run_bits c.args.v.now) c.args.eye.now c.match_words.new.eye c.match_words.result c.match_words.ensures.moves c.match_words.ensures.reading
