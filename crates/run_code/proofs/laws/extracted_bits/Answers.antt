use Rattle.run_code.proofs.InverseBits.{length-extract, extract_tells, inverse_is}
use Rattle.run_code.proofs.laws.extracted_bits.Goals as goal

pub returns-clause-many : goal.returns-clause-many
returns-clause-many c = length-extract

pub returns-clause-told : goal.returns-clause-told
returns-clause-told c = extract_tells

pub returns-clause-inverse : goal.returns-clause-inverse
returns-clause-inverse c = inverse_is
