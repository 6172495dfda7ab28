-- The frame of a saved state.
use Rattle.std.specs.Prelude.{◌≡◌, ◌≢◌, ℕ, ◌+◌, ◌<◌, ◌^◌, ◌⊎◌, List, ◌∷◌, ◌++◌, codes}
use Rattle.std.specs.Int.{to_be_bytes, w32}
use Rattle.state_bytes.specs.Crc.{crc32}

-- what a state begins with: "PCKT", the version 1, the kind, and the number of places in four bytes
abbrev pub head : ℕ → ℕ → List ℕ
head kind f = codes "PCKT" ++ 1 ∷ kind ∷ to_be_bytes w32 f

-- bytes and their checksum
abbrev pub sealed : List ℕ → List ℕ
sealed bytes = bytes ++ to_be_bytes w32 (crc32 bytes)

-- a state of this kind and this number of places
unfoldable pub frame : ℕ → ℕ → List ℕ → List ℕ
frame kind f body = sealed (head kind f ++ body)

-- how many bytes a frame adds
abbrev pub frame_bytes : ℕ
frame_bytes = 14

-- the bytes are a state of some kind and some number of places
pub record IsFrame (bytes : List ℕ) (kind f : ℕ) (body : List ℕ) : Type 0 where
  pub kind_byte : kind < 256
  pub places : f < 2 ^ 32
  pub is : bytes ≡ frame kind f body

-- the bytes are a state of another kind or another number of places
pub record IsOther (kind f : ℕ) (bytes : List ℕ) : Type 0 where
  pub its_kind : ℕ
  pub its_places : ℕ
  pub its_body : List ℕ
  pub framed : IsFrame bytes its_kind its_places its_body
  pub other : (its_kind ≢ kind) ⊎ (its_places ≢ f)
