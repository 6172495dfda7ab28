use Rattle.std.proofs.Common.{ℕ, List, length, ap, ◌∙◌}
use Rattle.std.specs.List.{range_with_len}
use Rattle.std.proofs.lemmas.Simd.{map-map}
use Rattle.packet_store.specs.SpacePackets.{Packet, plain_packet}
use Rattle.packet_store.specs.Walks.{walked}
use Rattle.flight_chain.specs.Compressing.{numbered_data}
use Rattle.flight_chain.proofs.CompressCourses.{walk-store_of}
use Rattle.flight_chain.proofs.laws.stores_of_histories_are_walked.Goals as goal

pub returns : goal.returns
returns c = λ chosen h apid valid few.
    walk-store_of chosen h apid valid few
    ∙ ap (λ (packets : List Packet). record walked { packets = packets }) (map-map (λ (p : ℕ × List ℕ). plain_packet apid p.0 p.1) (numbered_data h) (range_with_len 0 (length h.steps)))
