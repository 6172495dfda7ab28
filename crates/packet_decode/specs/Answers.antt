-- The answers to the bits of a packet: what each of them says, exactly or only soundly.
use Rattle.std.specs.Prelude.{◌≡◌, ℕ, ◌+◌, ◌<◌, ◌≤◌, ◌⊎◌, List, ◌++◌, Bool, true, false, length, take, Option, Some, None, IsSome, IsNone, Result, Ok, Err}
use Rattle.bit_vectors.specs.declared.fault.BitFault.{BitFault}
use Rattle.bit_vectors.specs.declared.fault.BitFault.TheVariants.{Wrong, EndsEarly}
use Rattle.bit_vectors.specs.Vectors.{AreBytes, bits_of}
use Rattle.packet_encode.specs.Forms.{Form}
use Rattle.packet_decode.specs.declared.decoder.Reading.{Reading}
use Rattle.packet_decode.specs.declared.decoder.Reading.TheVariants.{Written, Unsynced, Gap}
use Rattle.packet_decode.specs.State.{State}
use Rattle.packet_decode.specs.Spelling.{Spells, HasOpaqueFront}

-- the bits spell a packet
abbrev pub SpellsPacket : ℕ → State → ℕ → List Bool → Type 0
SpellsPacket f state t bits = (form : Form) × (mask : Option (List Bool)) × (content : Option (List Bool)) × Spells f state t bits form mask content

-- they spell one whose content becomes known
abbrev pub SpellsContent : ℕ → State → ℕ → List Bool → Type 0
SpellsContent f state t bits = (form : Form) × (mask : Option (List Bool)) × (content : List Bool) × Spells f state t bits form mask (Some content)

-- they spell one of this level whose content doesn't become known; so its mask does
abbrev pub SpellsMaskAlone : ℕ → State → ℕ → List Bool → ℕ → Type 0
SpellsMaskAlone f state t bits level = (form : Form) × (mask : Option (List Bool)) × Spells f state t bits form mask None × (form.level ≡ level)

-- they have an opaque front, of some level
abbrev pub IsOpaque : ℕ → State → ℕ → List Bool → Type 0
IsOpaque f state t bits = (level : ℕ) × HasOpaqueFront f state t bits level

-- some bits that begin with these spell a packet or have an opaque front
abbrev pub Viable : ℕ → State → ℕ → List Bool → Type 0
Viable f state t bits = (rest : List Bool) × (SpellsPacket f state t (bits ++ rest) ⊎ IsOpaque f state t (bits ++ rest))

-- ---- answers

-- the place is one of the bits, and after its bit nothing can be read
pub record IsHopeless (f : ℕ) (state : State) (t : ℕ) (bits : List Bool) (bit : ℕ) : Type 0 where
  pub inside : bit < length bits
  pub hopeless : Viable f state t (take (bit + 1) bits) → ⊥

-- all bits are read, and neither spell a packet nor have an opaque front
pub record IsIncomplete (f : ℕ) (state : State) (t : ℕ) (bits : List Bool) (bit : ℕ) : Type 0 where
  pub all : bit ≡ length bits
  pub not_spelled : SpellsPacket f state t bits → ⊥
  pub not_opaque : IsOpaque f state t bits → ⊥

-- What the bits say. A packet whose content becomes known is written. Else its mask became known or did not, and of the part
-- that did not, nothing was known before or something was.
abbrev pub Says : ℕ → State → ℕ → List Bool → Reading → Type 0
Says f state t bits Written = SpellsContent f state t bits
Says f state t bits (Unsynced true) = ((level : ℕ) × SpellsMaskAlone f state t bits level) × IsNone state.content
Says f state t bits (Unsynced false) = IsOpaque f state t bits × IsNone state.mask
Says f state t bits (Gap level true) = SpellsMaskAlone f state t bits level × IsSome state.content
Says f state t bits (Gap level false) = HasOpaqueFront f state t bits level × IsSome state.mask

-- an answer that is right, though the bit of a fault may come later than the first at which it can be seen
abbrev pub IsSoundAnswer : ℕ → State → ℕ → List Bool → Result Reading BitFault → Type 0
IsSoundAnswer f state t bits (Ok reading) = Says f state t bits reading
IsSoundAnswer f state t bits (Err (Wrong bit)) = IsHopeless f state t bits bit
IsSoundAnswer f state t bits (Err (EndsEarly bit)) = IsIncomplete f state t bits bit

-- an answer whose fault is the first: the bits before it are viable
abbrev pub IsExactAnswer : ℕ → State → ℕ → List Bool → Result Reading BitFault → Type 0
IsExactAnswer f state t bits (Ok reading) = Says f state t bits reading
IsExactAnswer f state t bits (Err (Wrong bit)) = IsHopeless f state t bits bit × Viable f state t (take bit bits)
IsExactAnswer f state t bits (Err (EndsEarly bit)) = IsIncomplete f state t bits bit × Viable f state t bits

-- ---- viable bits, as data

-- the bits are the first of some data, of at most 65,536 bytes, that are written or listed
pub record BeginReadable (f : ℕ) (state : State) (t : ℕ) (bits : List Bool) : Type 0 where
  pub body : List ℕ
  pub bytes : AreBytes body
  pub size : length body ≤ 65536
  pub rest : List Bool
  pub begins : bits_of body ≡ bits ++ rest
  pub reading : Reading
  pub says : Says f state t (bits_of body) reading
