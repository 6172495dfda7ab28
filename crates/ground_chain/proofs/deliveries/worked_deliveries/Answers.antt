use Rattle.std.proofs.Common.{refl}
use Rattle.std.specs.Fmt.{digits}
use Rattle.bit_vectors.specs.Vectors.{bytes_from, bits_number, number_bits, vector_bytes}
use Rattle.mask_update.specs.Masks.{change_at, latest_new_mask, mask_at, second_latest_new_mask}
use Rattle.robust_window.specs.Changes.{level_of}
use Rattle.packet_encode.specs.Deliveries.{latest_by}
use Rattle.ground_chain.proofs.deliveries.worked_deliveries.Goals as goal

pub returns : goal.returns
unfolding digits bytes_from bits_number number_bits vector_bytes change_at latest_new_mask mask_at second_latest_new_mask level_of latest_by
returns c = record { restored = refl; lost = refl; first = refl; gap = refl; none = refl; unsynced = refl; apart = refl; none_listed = refl }
