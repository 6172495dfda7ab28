-- Packets of one APID as often as they arrive.
use Rattle.std.specs.Prelude.{ℕ, ◌+◌, List, [], ◌∷◌, ◌++◌, replicate}
use Rattle.packet_store.specs.SpacePackets.{Packet}

-- each of these packets as often as its number says, the first one having the number t
abbrev pub copied_from : (ℕ → ℕ) → ℕ → List Packet → List Packet
copied_from copies t [] = []
copied_from copies t (p ∷ packets) = replicate (copies t) p ++ copied_from copies (t + 1) packets
