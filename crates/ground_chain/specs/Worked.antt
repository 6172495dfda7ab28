-- Words for worked runs and histories.
use Rattle.std.specs.Prelude.{ℕ, ◌==◌, false, List, [], ◌∷◌, nat_lt, if◌then◌else◌, None}
use Rattle.bit_vectors.specs.declared.flags.Flags.{Flags}
use Rattle.bit_vectors.specs.Vectors.{bits_of}
use Rattle.mask_update.specs.Histories.{History, history_of}
use Rattle.packet_decode.specs.State.{State, both_known}
use Rattle.ground_chain.specs.declared.verdict.Kind.TheVariants.{Written}
use Rattle.ground_chain.specs.declared.verdict.Verdict.{Verdict}
use Rattle.ground_chain.specs.Run.{Arrival}

abbrev pub arrival : ℕ → List ℕ → Arrival
arrival count body = record { count = count; body = body }

-- the first packet of 8 places, with the mask 00 and the content B0
abbrev pub worked_arrival : List Arrival
worked_arrival = arrival 0 (0x85 ∷ 0xB8 ∷ 0xD6 ∷ 0x00 ∷ []) ∷ []

-- the packet with the number t, with this content, and with a mask that is known with it, of no place
abbrev pub unmasked : ℕ → ℕ → State
unmasked t content = both_known t (bits_of (0x00 ∷ [])) (bits_of (content ∷ []))

-- a packet is written that follows the one before
abbrev pub written_verdict : ℕ → Verdict
written_verdict t = record { lost = None; t = t; kind = Written }

-- four packets of 8 bits, B0 B1 B1 B3 in hexadecimal, with the required robustness 1 and no flags beyond the forced ones
abbrev pub no_flags_at : ℕ → Flags
no_flags_at t = record { p = false; f = false; r = false }

abbrev pub four_packets : History
four_packets = history_of (bits_of (0xB0 ∷ []) ∷ bits_of (0xB1 ∷ []) ∷ bits_of (0xB1 ∷ []) ∷ bits_of (0xB3 ∷ []) ∷ []) no_flags_at (λ _. 1) 8 (bits_of (0x00 ∷ []))

-- six packets of 8 bits, 00 01 03 03 02 02, with the required robustness 0, of which 3 carries its whole content and 4 its
-- mask
abbrev pub apart_flags_at : ℕ → Flags
apart_flags_at t = record { p = false; f = t == 4; r = t == 3 }

abbrev pub six_packets : History
six_packets =
    history_of (bits_of (0x00 ∷ []) ∷ bits_of (0x01 ∷ []) ∷ bits_of (0x03 ∷ []) ∷ bits_of (0x03 ∷ []) ∷ bits_of (0x02 ∷ []) ∷ bits_of (0x02 ∷ []) ∷ []) apart_flags_at (λ _. 0) 8 (bits_of (0x00 ∷ []))

-- the packets from one number to another are lost, and all others arrive once
abbrev pub lost_between : ℕ → ℕ → ℕ → ℕ
lost_between first last t = if nat_lt t first then 1 else if nat_lt last t then 1 else 0
