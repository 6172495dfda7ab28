use Rattle.std.proofs.Common.{refl}
use Rattle.std.specs.Fmt.{digits}
use Rattle.bit_vectors.specs.Vectors.{bytes_from, bits_number, number_bits, vector_bytes}
use Rattle.mask_update.specs.Masks.{change_at, latest_new_mask, mask_at, second_latest_new_mask}
use Rattle.robust_window.specs.Changes.{level_of}
use Rattle.packet_encode.specs.Deliveries.{latest_by}
use Rattle.late_window.proofs.laws.worked_orders.Goals as goal

pub returns-clause-restored : goal.returns-clause-restored
unfolding digits bytes_from bits_number number_bits vector_bytes change_at latest_new_mask mask_at second_latest_new_mask level_of latest_by
returns-clause-restored c = refl

pub returns-clause-reported : goal.returns-clause-reported
unfolding digits bytes_from bits_number number_bits vector_bytes change_at latest_new_mask mask_at second_latest_new_mask level_of latest_by
returns-clause-reported c = refl

pub returns-clause-others : goal.returns-clause-others
unfolding digits bytes_from bits_number number_bits vector_bytes change_at latest_new_mask mask_at second_latest_new_mask level_of latest_by
returns-clause-others c = refl

pub returns-clause-lost : goal.returns-clause-lost
unfolding digits bytes_from bits_number number_bits vector_bytes change_at latest_new_mask mask_at second_latest_new_mask level_of latest_by
returns-clause-lost c = refl
