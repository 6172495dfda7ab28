-- The bytes of a reckoning in a saved state.
use Rattle.std.specs.Prelude.{◌≡◌, ℕ, ◌+◌, ◌<◌, ◌^◌, List, ◌++◌}
use Rattle.state_bytes.specs.Parts.{number_bytes}
use Rattle.packet_decode.specs.Saved.{IsDecoding, decoding_bytes, decoding_room}
use Rattle.ground_chain.specs.declared.restored.Restored.{Restored}
use Rattle.ground_chain.specs.Run.{expected}
use Rattle.ground_chain.specs.Reception.{IsReception, IsWithinLimits, Reckoning}

-- five numbers, and what follows
abbrev pub counts_before : ℕ → Restored → List ℕ → List ℕ
counts_before next r rest =
    number_bytes next ++ (number_bytes r.packets ++ (number_bytes r.written ++ (number_bytes r.repeats ++ (number_bytes r.listed ++ rest))))

-- the number that comes next, the numbers of the run, and then the decoder
unfoldable pub reckoning_bytes : Reckoning → List ℕ
reckoning_bytes r = counts_before (expected r.reception.latest) r.restored (decoding_bytes r.reception.decoder)

-- the most bytes of a reckoning with vectors of f places
abbrev pub reckoning_room : ℕ → ℕ
reckoning_room f = 40 + decoding_room f

-- what a reckoning with vectors of f places may be
pub record IsReckoning (f : ℕ) (r : Reckoning) : Type 0 where
  pub decoding : IsDecoding f r.reception.decoder
  pub reception : IsReception r.reception.latest r.reception.decoder
  pub limits : IsWithinLimits r.reception.latest r.restored

-- the bytes are those of such a reckoning
pub record AreOfReckoning (f : ℕ) (bytes : List ℕ) : Type 0 where
  pub reckoning : Reckoning
  pub valid : IsReckoning f reckoning
  pub bytes_are : bytes ≡ reckoning_bytes reckoning

-- the five numbers alone
abbrev pub counts_bytes : ℕ → Restored → List ℕ
counts_bytes next r = number_bytes next ++ (number_bytes r.packets ++ (number_bytes r.written ++ (number_bytes r.repeats ++ number_bytes r.listed)))

-- numbers of 64 bits
pub record AreFitting (r : Restored) : Type 0 where
  pub packets : r.packets < 2 ^ 64
  pub written : r.written < 2 ^ 64
  pub repeats : r.repeats < 2 ^ 64
  pub listed : r.listed < 2 ^ 64
