use Rattle.std.proofs.Common.{refl}
use Rattle.mask_update.specs.Masks.{change_at, latest_new_mask, mask_at, second_latest_new_mask}
use Rattle.robust_window.specs.Changes.{level_of, recent_of, twice_of}
use Rattle.bit_vectors.specs.Vectors.{number_bits}
use Rattle.count_code.specs.Code.{count_bits, digits, halvings}
use Rattle.run_code.specs.Extraction.{ones_from}
use Rattle.run_code.specs.Runs.{run_bits, runs_from}
use Rattle.packet_encode.specs.Forms.{change_bits, form_bits}
use Rattle.packet_encode.proofs.laws.worked_packets.Goals as goal

pub returns : goal.returns
unfolding change_at mask_at latest_new_mask second_latest_new_mask level_of recent_of twice_of number_bits count_bits digits halvings ones_from run_bits runs_from change_bits form_bits
returns c = refl
