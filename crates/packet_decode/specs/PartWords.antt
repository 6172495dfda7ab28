-- The words of the parts of a packet. Those after the first part depend on it, on a deduced mask or none, and on a known
-- content or none, and on no state.
use Rattle.std.specs.Prelude.{◌≡◌, ℕ, Bool, true, false, List, [], ◌∷◌, ◌++◌, length, count_by, Option, None, Some, IfSome}
use Rattle.count_code.specs.Code.{count_bits}
use Rattle.run_code.specs.Runs.{edges, run_bits}
use Rattle.run_code.specs.Extraction.{SameOutside}
use Rattle.packet_encode.specs.Forms.{Form, IsForm, change_bits, wide_by}
use Rattle.packet_decode.specs.State.{Change, change_of}
use Rattle.packet_decode.specs.Spelling.{IsFilled}
use Rattle.packet_decode.specs.PacketReading.{Outcome, Spelled, Opaque}

-- the first part of a form of f places
abbrev pub IsFirstWord : ℕ → Change → List Bool → Type 0
IsFirstWord f change word = (form : Form) × IsForm f form × (change_of form ≡ change) × (word ≡ change_bits form)

-- ---- what is given and what follows from it

-- a vector that is given has f places
abbrev pub AllPlaces : ℕ → Option (List Bool) → Type 0
AllPlaces f known = IfSome known (λ was. length was ≡ f)

-- the places that are extracted
abbrev pub places_of : Change → List Bool → List Bool
places_of change mask = wide_by change.directions change.recent mask

-- a vector of f places that is the known one outside these, if one is known
abbrev pub KeepsOutside : ℕ → List Bool → Option (List Bool) → List Bool → Type 0
KeepsOutside f places known content = (length content ≡ f) × IfSome known (λ was. SameOutside places was content)

-- ---- words

-- a one and a word of the first kind, or a zero and a word of the second
abbrev pub IsBitThen : {A : Type 0} → (A → List Bool → Type 0) → (A → List Bool → Type 0) → A → List Bool → Type 0
IsBitThen U V u [] = ⊥
IsBitThen U V u (true ∷ word) = U u word
IsBitThen U V u (false ∷ word) = V u word

abbrev pub NoWord : {A : Type 0} → A → List Bool → Type 0
NoWord u word = ⊥

-- too little to understand the packet, and no further bit
abbrev pub IsNothing : Outcome → List Bool → Type 0
IsNothing o word = (o ≡ Opaque) × (word ≡ [])

-- a sent mask of f places and its word; if one is deduced, it is that one
abbrev pub IsMaskWord : ℕ → Option (List Bool) → List Bool → List Bool → Type 0
IsMaskWord f None mask word = (length mask ≡ f) × (word ≡ run_bits (edges mask))
IsMaskWord f (Some deduced) mask word = (mask ≡ deduced) × (word ≡ run_bits (edges mask))

-- a content that agrees, after its number of places
abbrev pub IsContentWord : ℕ → List Bool → Option (List Bool) → List Bool → List Bool → Type 0
IsContentWord f places known content word = KeepsOutside f places known content × (word ≡ count_bits f ++ content)

-- with a mask: the whole content
abbrev pub IsWhole : ℕ → Change → List Bool → Option (List Bool) → Outcome → List Bool → Type 0
IsWhole f change mask known o word =
    (content : List Bool) × IsContentWord f (places_of change mask) known content word × (o ≡ Spelled (Some mask) (Some content))

-- without a mask: any whole content
abbrev pub IsWholeAlone : ℕ → Outcome → List Bool → Type 0
IsWholeAlone f o word = (content : List Bool) × IsContentWord f [] None content word × (o ≡ Spelled None (Some content))

-- with a mask: the extracted bits; if no content is known, any bits for the extracted places, which tell the mask alone
abbrev pub IsPart : Change → List Bool → Option (List Bool) → Outcome → List Bool → Type 0
IsPart change mask None o word = (o ≡ Spelled (Some mask) None) × (length word ≡ count_by (λ bit. bit) (places_of change mask))
IsPart change mask (Some known) o word = (content : List Bool) × IsFilled (places_of change mask) known word content × (o ≡ Spelled (Some mask) (Some content))

-- with a mask: whether the content is whole, and the content
abbrev pub IsContent : ℕ → Change → List Bool → Option (List Bool) → Outcome → List Bool → Type 0
IsContent f change mask known = IsBitThen (IsWhole f change mask known) (IsPart change mask known)

-- neither a mask nor whole content is sent
abbrev pub IsUnsent : Change → Option (List Bool) → Option (List Bool) → Outcome → List Bool → Type 0
IsUnsent change None known = IsNothing
IsUnsent change (Some mask) known = IsPart change mask known

-- whole content is sent without a mask; if none is deduced, it is not compared
abbrev pub IsMaskless : ℕ → Change → Option (List Bool) → Option (List Bool) → Outcome → List Bool → Type 0
IsMaskless f change None known = IsBitThen (IsWholeAlone f) NoWord
IsMaskless f change (Some mask) known = IsBitThen (IsWhole f change mask known) NoWord

-- a mask is sent, and then a content
abbrev pub IsMasked : ℕ → Change → Option (List Bool) → Option (List Bool) → Outcome → List Bool → Type 0
IsMasked f change deduced known o word =
    (mask : List Bool) × (front : List Bool) × (back : List Bool) × IsMaskWord f deduced mask front × IsContent f change mask known o back × (word ≡ front ++ back)

-- a mask or whole content is sent
abbrev pub IsSent : ℕ → Change → Option (List Bool) → Option (List Bool) → Outcome → List Bool → Type 0
IsSent f change deduced known = IsBitThen (IsMasked f change deduced known) (IsMaskless f change deduced known)

-- all parts after the first
abbrev pub IsData : ℕ → Change → Option (List Bool) → Option (List Bool) → Outcome → List Bool → Type 0
IsData f change deduced known = IsBitThen (IsUnsent change deduced known) (IsSent f change deduced known)
