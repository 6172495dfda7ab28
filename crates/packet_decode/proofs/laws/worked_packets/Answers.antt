use Rattle.std.proofs.Common.{true, false, [], ◌∷◌, None, refl, arith}
use Rattle.bit_vectors.specs.Vectors.{number_bits, bits_number}
use Rattle.bit_vectors.specs.Reading.{parse_front, parse_word, parse_number}
use Rattle.count_code.specs.Code.{count_bits}
use Rattle.count_code.specs.Counts.{parse_bounded, parse_long, parse_above_one, parse_after_one, parse_count}
use Rattle.run_code.specs.Extraction.{ones_from, parse_filled, parse_inverse}
use Rattle.run_code.specs.Runs.{run_bits, runs_from, parse_ones, parse_vector}
use Rattle.packet_encode.specs.Forms.{Form, Part, change_bits, form_bits}
use Rattle.packet_decode.specs.PacketReading.{parse_kept, parse_named, parse_directions, parse_change, from_edges, parse_mask, parse_whole, parse_whole_with, parse_whole_alone, parse_part_with, parse_content, parse_unsent, parse_maskless, parse_masked, parse_sent, parse_data, parse_parts, parse_padding, parse_end, parse_packet, parse_whole_packet}
use Rattle.packet_decode.proofs.laws.worked_packets.Goals as goal

one_bit : Form
one_bit = record { recent = false ∷ false ∷ false ∷ false ∷ false ∷ false ∷ false ∷ true ∷ []; level = 2; directions = None; sent = None; content = Part (true ∷ []) }

pub returns-clause-follows : goal.returns-clause-follows
unfolding number_bits count_bits ones_from run_bits runs_from change_bits form_bits
returns-clause-follows c = record {
  is_form = record { recent = refl; level = omega arith; directions = tt; sent = tt; content = tt };
  bits_are = refl;
  mask_is = refl;
  unmasked = tt;
  masked = record { sent = tt; fits = refl; kept = tt };
  content_is = record { same_length = refl; kept = λ place predicted. refl; bits_are = refl };
}

pub returns-clause-opaque : goal.returns-clause-opaque
unfolding number_bits count_bits ones_from run_bits runs_from change_bits form_bits one_bit
returns-clause-opaque c = record {
  form = one_bit;
  is_form = record { recent = refl; level = omega arith; directions = tt; sent = tt; content = tt };
  level_is = refl;
  out_of_reach = refl;
  no_mask = refl;
  not_whole = λ whole. whole;
  rest = true ∷ false ∷ false ∷ false ∷ false ∷ false ∷ false ∷ [];
  bits_are = refl;
}

pub returns-clause-unsynced : goal.returns-clause-unsynced
unfolding number_bits bits_number count_bits parse_bounded parse_long parse_above_one parse_after_one parse_count ones_from run_bits runs_from parse_ones parse_vector parse_word parse_filled parse_inverse parse_front parse_number parse_kept parse_named parse_directions parse_change from_edges parse_mask parse_whole parse_whole_with parse_whole_alone parse_part_with parse_content parse_unsent parse_maskless parse_masked parse_sent parse_data parse_parts parse_padding parse_end parse_packet parse_whole_packet
returns-clause-unsynced c = refl

pub returns-clause-alone : goal.returns-clause-alone
unfolding number_bits bits_number count_bits parse_bounded parse_long parse_above_one parse_after_one parse_count ones_from run_bits runs_from parse_ones parse_vector parse_word parse_filled parse_inverse parse_front parse_number parse_kept parse_named parse_directions parse_change from_edges parse_mask parse_whole parse_whole_with parse_whole_alone parse_part_with parse_content parse_unsent parse_maskless parse_masked parse_sent parse_data parse_parts parse_padding parse_end parse_packet parse_whole_packet
returns-clause-alone c = refl

pub returns-clause-places : goal.returns-clause-places
unfolding number_bits bits_number count_bits parse_bounded parse_long parse_above_one parse_after_one parse_count ones_from run_bits runs_from parse_ones parse_vector parse_word parse_filled parse_inverse parse_front parse_number parse_kept parse_named parse_directions parse_change from_edges parse_mask parse_whole parse_whole_with parse_whole_alone parse_part_with parse_content parse_unsent parse_maskless parse_masked parse_sent parse_data parse_parts parse_padding parse_end parse_packet parse_whole_packet
returns-clause-places c = refl

pub returns-clause-gap : goal.returns-clause-gap
unfolding number_bits bits_number count_bits parse_bounded parse_long parse_above_one parse_after_one parse_count ones_from run_bits runs_from parse_ones parse_vector parse_word parse_filled parse_inverse parse_front parse_number parse_kept parse_named parse_directions parse_change from_edges parse_mask parse_whole parse_whole_with parse_whole_alone parse_part_with parse_content parse_unsent parse_maskless parse_masked parse_sent parse_data parse_parts parse_padding parse_end parse_packet parse_whole_packet
returns-clause-gap c = refl

pub returns-clause-no_gap : goal.returns-clause-no_gap
unfolding number_bits bits_number count_bits parse_bounded parse_long parse_above_one parse_after_one parse_count ones_from run_bits runs_from parse_ones parse_vector parse_word parse_filled parse_inverse parse_front parse_number parse_kept parse_named parse_directions parse_change from_edges parse_mask parse_whole parse_whole_with parse_whole_alone parse_part_with parse_content parse_unsent parse_maskless parse_masked parse_sent parse_data parse_parts parse_padding parse_end parse_packet parse_whole_packet
returns-clause-no_gap c = refl

pub returns-clause-predictable : goal.returns-clause-predictable
unfolding number_bits bits_number count_bits parse_bounded parse_long parse_above_one parse_after_one parse_count ones_from run_bits runs_from parse_ones parse_vector parse_word parse_filled parse_inverse parse_front parse_number parse_kept parse_named parse_directions parse_change from_edges parse_mask parse_whole parse_whole_with parse_whole_alone parse_part_with parse_content parse_unsent parse_maskless parse_masked parse_sent parse_data parse_parts parse_padding parse_end parse_packet parse_whole_packet
returns-clause-predictable c = refl

pub returns-clause-padding : goal.returns-clause-padding
unfolding number_bits bits_number count_bits parse_bounded parse_long parse_above_one parse_after_one parse_count ones_from run_bits runs_from parse_ones parse_vector parse_word parse_filled parse_inverse parse_front parse_number parse_kept parse_named parse_directions parse_change from_edges parse_mask parse_whole parse_whole_with parse_whole_alone parse_part_with parse_content parse_unsent parse_maskless parse_masked parse_sent parse_data parse_parts parse_padding parse_end parse_packet parse_whole_packet
returns-clause-padding c = refl

pub returns-clause-further : goal.returns-clause-further
unfolding number_bits bits_number count_bits parse_bounded parse_long parse_above_one parse_after_one parse_count ones_from run_bits runs_from parse_ones parse_vector parse_word parse_filled parse_inverse parse_front parse_number parse_kept parse_named parse_directions parse_change from_edges parse_mask parse_whole parse_whole_with parse_whole_alone parse_part_with parse_content parse_unsent parse_maskless parse_masked parse_sent parse_data parse_parts parse_padding parse_end parse_packet parse_whole_packet
returns-clause-further c = refl

pub returns-clause-early : goal.returns-clause-early
unfolding number_bits bits_number count_bits parse_bounded parse_long parse_above_one parse_after_one parse_count ones_from run_bits runs_from parse_ones parse_vector parse_word parse_filled parse_inverse parse_front parse_number parse_kept parse_named parse_directions parse_change from_edges parse_mask parse_whole parse_whole_with parse_whole_alone parse_part_with parse_content parse_unsent parse_maskless parse_masked parse_sent parse_data parse_parts parse_padding parse_end parse_packet parse_whole_packet
returns-clause-early c = refl

pub returns-clause-empty : goal.returns-clause-empty
unfolding number_bits bits_number count_bits parse_bounded parse_long parse_above_one parse_after_one parse_count ones_from run_bits runs_from parse_ones parse_vector parse_word parse_filled parse_inverse parse_front parse_number parse_kept parse_named parse_directions parse_change from_edges parse_mask parse_whole parse_whole_with parse_whole_alone parse_part_with parse_content parse_unsent parse_maskless parse_masked parse_sent parse_data parse_parts parse_padding parse_end parse_packet parse_whole_packet
returns-clause-empty c = refl

pub returns-clause-no_direction : goal.returns-clause-no_direction
unfolding number_bits bits_number count_bits parse_bounded parse_long parse_above_one parse_after_one parse_count ones_from run_bits runs_from parse_ones parse_vector parse_word parse_filled parse_inverse parse_front parse_number parse_kept parse_named parse_directions parse_change from_edges parse_mask parse_whole parse_whole_with parse_whole_alone parse_part_with parse_content parse_unsent parse_maskless parse_masked parse_sent parse_data parse_parts parse_padding parse_end parse_packet parse_whole_packet
returns-clause-no_direction c = refl

pub returns-clause-neither : goal.returns-clause-neither
unfolding number_bits bits_number count_bits parse_bounded parse_long parse_above_one parse_after_one parse_count ones_from run_bits runs_from parse_ones parse_vector parse_word parse_filled parse_inverse parse_front parse_number parse_kept parse_named parse_directions parse_change from_edges parse_mask parse_whole parse_whole_with parse_whole_alone parse_part_with parse_content parse_unsent parse_maskless parse_masked parse_sent parse_data parse_parts parse_padding parse_end parse_packet parse_whole_packet
returns-clause-neither c = refl

pub returns-clause-sent : goal.returns-clause-sent
unfolding number_bits bits_number count_bits parse_bounded parse_long parse_above_one parse_after_one parse_count ones_from run_bits runs_from parse_ones parse_vector parse_word parse_filled parse_inverse parse_front parse_number parse_kept parse_named parse_directions parse_change from_edges parse_mask parse_whole parse_whole_with parse_whole_alone parse_part_with parse_content parse_unsent parse_maskless parse_masked parse_sent parse_data parse_parts parse_padding parse_end parse_packet parse_whole_packet
returns-clause-sent c = refl

pub returns-clause-other_mask : goal.returns-clause-other_mask
unfolding number_bits bits_number count_bits parse_bounded parse_long parse_above_one parse_after_one parse_count ones_from run_bits runs_from parse_ones parse_vector parse_word parse_filled parse_inverse parse_front parse_number parse_kept parse_named parse_directions parse_change from_edges parse_mask parse_whole parse_whole_with parse_whole_alone parse_part_with parse_content parse_unsent parse_maskless parse_masked parse_sent parse_data parse_parts parse_padding parse_end parse_packet parse_whole_packet
returns-clause-other_mask c = refl

pub returns-clause-other_content : goal.returns-clause-other_content
unfolding number_bits bits_number count_bits parse_bounded parse_long parse_above_one parse_after_one parse_count ones_from run_bits runs_from parse_ones parse_vector parse_word parse_filled parse_inverse parse_front parse_number parse_kept parse_named parse_directions parse_change from_edges parse_mask parse_whole parse_whole_with parse_whole_alone parse_part_with parse_content parse_unsent parse_maskless parse_masked parse_sent parse_data parse_parts parse_padding parse_end parse_packet parse_whole_packet
returns-clause-other_content c = refl

pub returns-clause-content_alone : goal.returns-clause-content_alone
unfolding number_bits bits_number count_bits parse_bounded parse_long parse_above_one parse_after_one parse_count ones_from run_bits runs_from parse_ones parse_vector parse_word parse_filled parse_inverse parse_front parse_number parse_kept parse_named parse_directions parse_change from_edges parse_mask parse_whole parse_whole_with parse_whole_alone parse_part_with parse_content parse_unsent parse_maskless parse_masked parse_sent parse_data parse_parts parse_padding parse_end parse_packet parse_whole_packet
returns-clause-content_alone c = refl

pub returns-clause-mask_then : goal.returns-clause-mask_then
unfolding number_bits bits_number count_bits parse_bounded parse_long parse_above_one parse_after_one parse_count ones_from run_bits runs_from parse_ones parse_vector parse_word parse_filled parse_inverse parse_front parse_number parse_kept parse_named parse_directions parse_change from_edges parse_mask parse_whole parse_whole_with parse_whole_alone parse_part_with parse_content parse_unsent parse_maskless parse_masked parse_sent parse_data parse_parts parse_padding parse_end parse_packet parse_whole_packet
returns-clause-mask_then c = refl

pub returns-clause-mask_alone : goal.returns-clause-mask_alone
unfolding number_bits bits_number count_bits parse_bounded parse_long parse_above_one parse_after_one parse_count ones_from run_bits runs_from parse_ones parse_vector parse_word parse_filled parse_inverse parse_front parse_number parse_kept parse_named parse_directions parse_change from_edges parse_mask parse_whole parse_whole_with parse_whole_alone parse_part_with parse_content parse_unsent parse_maskless parse_masked parse_sent parse_data parse_parts parse_padding parse_end parse_packet parse_whole_packet
returns-clause-mask_alone c = refl

pub returns-clause-mask_first : goal.returns-clause-mask_first
unfolding number_bits bits_number count_bits parse_bounded parse_long parse_above_one parse_after_one parse_count ones_from run_bits runs_from parse_ones parse_vector parse_word parse_filled parse_inverse parse_front parse_number parse_kept parse_named parse_directions parse_change from_edges parse_mask parse_whole parse_whole_with parse_whole_alone parse_part_with parse_content parse_unsent parse_maskless parse_masked parse_sent parse_data parse_parts parse_padding parse_end parse_packet parse_whole_packet
returns-clause-mask_first c = refl

pub returns-clause-mask_padding : goal.returns-clause-mask_padding
unfolding number_bits bits_number count_bits parse_bounded parse_long parse_above_one parse_after_one parse_count ones_from run_bits runs_from parse_ones parse_vector parse_word parse_filled parse_inverse parse_front parse_number parse_kept parse_named parse_directions parse_change from_edges parse_mask parse_whole parse_whole_with parse_whole_alone parse_part_with parse_content parse_unsent parse_maskless parse_masked parse_sent parse_data parse_parts parse_padding parse_end parse_packet parse_whole_packet
returns-clause-mask_padding c = refl

pub returns-clause-not_whole : goal.returns-clause-not_whole
unfolding number_bits bits_number count_bits parse_bounded parse_long parse_above_one parse_after_one parse_count ones_from run_bits runs_from parse_ones parse_vector parse_word parse_filled parse_inverse parse_front parse_number parse_kept parse_named parse_directions parse_change from_edges parse_mask parse_whole parse_whole_with parse_whole_alone parse_part_with parse_content parse_unsent parse_maskless parse_masked parse_sent parse_data parse_parts parse_padding parse_end parse_packet parse_whole_packet
returns-clause-not_whole c = refl
