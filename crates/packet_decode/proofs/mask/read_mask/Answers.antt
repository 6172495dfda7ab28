use Rattle.std.proofs.Common.{◌≡◌, refl, ap, sym, ◌∙◌}
use Rattle.packet_decode.specs.PacketReading.{parse_mask, from_edges as mask_of_edges}
use Rattle.packet_decode.proofs.EdgeMasks.{from_edges-edges}
use Rattle.packet_decode.proofs.mask.read_mask.Goals as goal

pub returns-clause-reading : goal.returns-clause-reading
unfolding parse_mask
returns-clause-reading c =
    let mask_is : mask_of_edges c.take_runs.new.into ≡ c.from_edges.new.into = ap mask_of_edges (sym c.from_edges.ensures.edges) ∙ from_edges-edges c.from_edges.new.into in
    rw (sym c.requires, c.in_ok-take_runs.ensures.reading, mask_is) refl
