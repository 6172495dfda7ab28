use Rattle.std.proofs.Common.{refl}
use Rattle.std.specs.Fmt.{digits}
use Rattle.bit_vectors.specs.Vectors.{number_bits, bits_number, vector_bytes, bytes_from}
use Rattle.bit_vectors.specs.Reading.{parse_front, parse_word, parse_number}
use Rattle.count_code.specs.Code.{count_bits}
use Rattle.count_code.specs.Counts.{parse_bounded, parse_long, parse_above_one, parse_after_one, parse_count}
use Rattle.run_code.specs.Extraction.{ones_from, parse_filled, parse_inverse}
use Rattle.run_code.specs.Runs.{run_bits, runs_from, parse_ones, parse_vector}
use Rattle.packet_decode.specs.PacketReading.{parse_kept, parse_named, parse_directions, parse_change, from_edges, parse_mask, parse_whole, parse_whole_with, parse_whole_alone, parse_part_with, parse_content, parse_unsent, parse_maskless, parse_masked, parse_sent, parse_data, parse_parts, parse_padding, parse_end, parse_packet, parse_whole_packet}
use Rattle.packet_store.specs.Walks.{walk_by, walk_from}
use Rattle.multi_ground.proofs.laws.worked_streams.Goals as goal

pub returns-clause-output : goal.returns-clause-output
unfolding digits vector_bytes bytes_from number_bits bits_number count_bits parse_bounded parse_long parse_above_one parse_after_one parse_count ones_from run_bits runs_from parse_ones parse_vector parse_word parse_filled parse_inverse parse_front parse_number parse_kept parse_named parse_directions parse_change from_edges parse_mask parse_whole parse_whole_with parse_whole_alone parse_part_with parse_content parse_unsent parse_maskless parse_masked parse_sent parse_data parse_parts parse_padding parse_end parse_packet parse_whole_packet walk_by walk_from
returns-clause-output c = refl

pub returns-clause-report : goal.returns-clause-report
unfolding digits vector_bytes bytes_from number_bits bits_number count_bits parse_bounded parse_long parse_above_one parse_after_one parse_count ones_from run_bits runs_from parse_ones parse_vector parse_word parse_filled parse_inverse parse_front parse_number parse_kept parse_named parse_directions parse_change from_edges parse_mask parse_whole parse_whole_with parse_whole_alone parse_part_with parse_content parse_unsent parse_maskless parse_masked parse_sent parse_data parse_parts parse_padding parse_end parse_packet parse_whole_packet walk_by walk_from
returns-clause-report c = refl

pub returns-clause-written : goal.returns-clause-written
unfolding digits vector_bytes bytes_from number_bits bits_number count_bits parse_bounded parse_long parse_above_one parse_after_one parse_count ones_from run_bits runs_from parse_ones parse_vector parse_word parse_filled parse_inverse parse_front parse_number parse_kept parse_named parse_directions parse_change from_edges parse_mask parse_whole parse_whole_with parse_whole_alone parse_part_with parse_content parse_unsent parse_maskless parse_masked parse_sent parse_data parse_parts parse_padding parse_end parse_packet parse_whole_packet walk_by walk_from
returns-clause-written c = refl
