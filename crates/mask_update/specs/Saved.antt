-- The bytes of the running vectors in a saved state.
use Rattle.std.specs.Prelude.{◌≡◌, ℕ, ◌+◌, ◌*◌, ◌≤◌, Bool, if◌then◌else◌, List, ◌∷◌, ◌++◌, length}
use Rattle.bit_vectors.specs.Vectors.{IsPlaces}
use Rattle.state_bytes.specs.Parts.{number_bytes, vector_part, vector_room}
use Rattle.mask_update.specs.Masks.{Running}

-- a truth value as a byte
abbrev pub bit_byte : Bool → ℕ
bit_byte bit = if bit then 1 else 0

-- four vectors, and what follows
abbrev pub four_before : List Bool → List Bool → List Bool → List Bool → List ℕ → List ℕ
four_before previous build mask change rest = vector_part previous ++ (vector_part build ++ (vector_part mask ++ (vector_part change ++ rest)))

-- a number, a byte, and what follows
abbrev pub counted_before : ℕ → ℕ → List ℕ → List ℕ
counted_before taken again rest = number_bytes taken ++ (again ∷ rest)

-- the number of inputs, whether the latest came again, the vectors, and what follows
unfoldable pub running_before : Running → List ℕ → List ℕ
running_before m rest = counted_before m.taken (bit_byte m.again) (four_before m.previous m.build m.mask m.change rest)

-- the most bytes of running vectors of f places
abbrev pub running_room : ℕ → ℕ
running_room f = 9 + 4 * vector_room f

-- what running vectors of f places may be
pub record IsRunning (f : ℕ) (m : Running) : Type 0 where
  pub vector : IsPlaces f
  pub previous : length m.previous ≡ f
  pub build : length m.build ≡ f
  pub mask : length m.mask ≡ f
  pub change : length m.change ≡ f
  pub most : m.taken ≤ 4294967296

-- the bytes begin with running vectors of f places, and the rest follows
pub record BeginsRunning (f : ℕ) (m : Running) (bytes rest : List ℕ) : Type 0 where
  pub valid : IsRunning f m
  pub bytes_are : bytes ≡ running_before m rest

-- the bytes begin with four vectors of f places
pub record BeginsFour (f : ℕ) (previous build mask change : List Bool) (bytes rest : List ℕ) : Type 0 where
  pub bytes_are : bytes ≡ four_before previous build mask change rest
  pub previous_places : length previous ≡ f
  pub build_places : length build ≡ f
  pub mask_places : length mask ≡ f
  pub change_places : length change ≡ f
