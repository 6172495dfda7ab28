use Rattle.std.proofs.Common.{refl}
use Rattle.bit_vectors.specs.Vectors.{number_bits}
use Rattle.count_code.specs.Code.{count_bits}
use Rattle.run_code.specs.Extraction.{ones_from}
use Rattle.run_code.specs.Runs.{run_bits, runs_from}
use Rattle.packet_encode.specs.Forms.{change_bits, form_bits}
use Rattle.packet_encode.proofs.laws.worked_forms.Goals as goal

pub returns-clause-first : goal.returns-clause-first
unfolding number_bits count_bits ones_from run_bits runs_from change_bits form_bits
returns-clause-first c = refl

pub returns-clause-changed : goal.returns-clause-changed
unfolding number_bits count_bits ones_from run_bits runs_from change_bits form_bits
returns-clause-changed c = refl

pub returns-clause-part : goal.returns-clause-part
unfolding number_bits count_bits ones_from run_bits runs_from change_bits form_bits
returns-clause-part c = refl

pub returns-clause-next : goal.returns-clause-next
unfolding number_bits count_bits ones_from run_bits runs_from change_bits form_bits
returns-clause-next c = refl

pub returns-clause-predictable : goal.returns-clause-predictable
unfolding number_bits count_bits ones_from run_bits runs_from change_bits form_bits
returns-clause-predictable c = refl
