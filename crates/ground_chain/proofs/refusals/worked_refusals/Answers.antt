use Rattle.std.proofs.Common.{◌≡◌, ℕ, zero, suc, List, [], ◌∷◌, ◌++◌, codes, refl, ap, append-nil, arith}
use Rattle.std.specs.Fmt.{decimal}
use Rattle.std.proofs.lemmas.List.Elements.{All-cons, All-nil}
use Rattle.ground_chain.specs.Run.{Arrival}
use Rattle.ground_chain.specs.Worked.{arrival}
use Rattle.bit_vectors.specs.Vectors.{AreBytes, number_bits, bits_number, bits_of}
use Rattle.bit_vectors.specs.Reading.{parse_front, parse_word, parse_number}
use Rattle.count_code.specs.Code.{count_bits}
use Rattle.count_code.specs.Counts.{parse_bounded, parse_long, parse_above_one, parse_after_one, parse_count}
use Rattle.run_code.specs.Extraction.{ones_from, parse_filled, parse_inverse}
use Rattle.run_code.specs.Runs.{run_bits, runs_from, parse_ones, parse_vector}
use Rattle.packet_decode.specs.PacketReading.{parse_kept, parse_named, parse_directions, parse_change, from_edges, parse_mask, parse_whole, parse_whole_with, parse_whole_alone, parse_part_with, parse_content, parse_unsent, parse_maskless, parse_masked, parse_sent, parse_data, parse_parts, parse_padding, parse_end, parse_packet, parse_whole_packet}
use Rattle.ground_chain.proofs.refusals.worked_refusals.Goals as goal

are_bytes : AreBytes (0x43 ∷ 0xA0 ∷ [])
are_bytes zero = omega arith
are_bytes (suc zero) = omega arith
are_bytes (suc (suc i)) = omega arith

pub returns-clause-row : goal.returns-clause-row
unfolding number_bits bits_number count_bits parse_bounded parse_long parse_above_one parse_after_one parse_count ones_from run_bits runs_from parse_ones parse_vector parse_word parse_filled parse_inverse parse_front parse_number parse_kept parse_named parse_directions parse_change from_edges parse_mask parse_whole parse_whole_with parse_whole_alone parse_part_with parse_content parse_unsent parse_maskless parse_masked parse_sent parse_data parse_parts parse_padding parse_end parse_packet parse_whole_packet
returns-clause-row c = refl

pub returns-clause-line : goal.returns-clause-line
unfolding number_bits bits_number count_bits parse_bounded parse_long parse_above_one parse_after_one parse_count ones_from run_bits runs_from parse_ones parse_vector parse_word parse_filled parse_inverse parse_front parse_number parse_kept parse_named parse_directions parse_change from_edges parse_mask parse_whole parse_whole_with parse_whole_alone parse_part_with parse_content parse_unsent parse_maskless parse_masked parse_sent parse_data parse_parts parse_padding parse_end parse_packet parse_whole_packet
returns-clause-line c = ap (λ (l : List ℕ). decimal 1 ++ (codes " wrong " ++ l)) (append-nil (decimal 8 ++ codes "\n"))

pub returns-clause-begins : goal.returns-clause-begins
unfolding number_bits bits_number count_bits parse_bounded parse_long parse_above_one parse_after_one parse_count ones_from run_bits runs_from parse_ones parse_vector parse_word parse_filled parse_inverse parse_front parse_number parse_kept parse_named parse_directions parse_change from_edges parse_mask parse_whole parse_whole_with parse_whole_alone parse_part_with parse_content parse_unsent parse_maskless parse_masked parse_sent parse_data parse_parts parse_padding parse_end parse_packet parse_whole_packet
returns-clause-begins c = record { body = 0x43 ∷ 0xA0 ∷ []; bytes = are_bytes; size = omega arith; rest = bits_of (0xA0 ∷ []); begins = refl; taken = refl }

pub returns-clause-taken_out : goal.returns-clause-taken_out
unfolding number_bits bits_number count_bits parse_bounded parse_long parse_above_one parse_after_one parse_count ones_from run_bits runs_from parse_ones parse_vector parse_word parse_filled parse_inverse parse_front parse_number parse_kept parse_named parse_directions parse_change from_edges parse_mask parse_whole parse_whole_with parse_whole_alone parse_part_with parse_content parse_unsent parse_maskless parse_masked parse_sent parse_data parse_parts parse_padding parse_end parse_packet parse_whole_packet
returns-clause-taken_out c = record {
  untold = refl;
  repeated = All-cons (λ (r : Arrival). r.count ≡ 1) (arrival 1 (0x8A ∷ [])) [] refl (All-nil (λ (r : Arrival). r.count ≡ 1));
  near = (2, refl, omega arith);
}

pub returns-clause-with_it : goal.returns-clause-with_it
unfolding number_bits bits_number count_bits parse_bounded parse_long parse_above_one parse_after_one parse_count ones_from run_bits runs_from parse_ones parse_vector parse_word parse_filled parse_inverse parse_front parse_number parse_kept parse_named parse_directions parse_change from_edges parse_mask parse_whole parse_whole_with parse_whole_alone parse_part_with parse_content parse_unsent parse_maskless parse_masked parse_sent parse_data parse_parts parse_padding parse_end parse_packet parse_whole_packet
returns-clause-with_it c = refl

pub returns-clause-without_it : goal.returns-clause-without_it
unfolding number_bits bits_number count_bits parse_bounded parse_long parse_above_one parse_after_one parse_count ones_from run_bits runs_from parse_ones parse_vector parse_word parse_filled parse_inverse parse_front parse_number parse_kept parse_named parse_directions parse_change from_edges parse_mask parse_whole parse_whole_with parse_whole_alone parse_part_with parse_content parse_unsent parse_maskless parse_masked parse_sent parse_data parse_parts parse_padding parse_end parse_packet parse_whole_packet
returns-clause-without_it c = refl
