-- What the bits of a packet say of its mask and its content, by what is known (CCSDS 124.0-B-1).
use Rattle.std.specs.Prelude.{◌≡◌, ℕ, Bool, true, List, ◌∷◌, ◌++◌, length, Option, None, Some, IfSome, IfNone, IsSomeAnd, ⊤}
use Rattle.std.specs.Option.{option_map, option_or}
use Rattle.bit_vectors.specs.Vectors.{padded}
use Rattle.run_code.specs.Extraction.{extract, SameOutside}
use Rattle.packet_encode.specs.Forms.{Content, Whole, Part, Form, IsForm, change_bits, form_bits, wide, Fits}
use Rattle.packet_decode.specs.State.{State, change_of, in_reach, deduced_by, known_by}

-- ---- what becomes known

-- the mask: the deduced one if there is one, else the sent one if there is one
abbrev pub known_mask : State → ℕ → Form → Option (List Bool)
known_mask state t form = option_or (deduced_by state t (change_of form)) form.sent

-- the new vector is the old one outside these places, and has these bits at them
pub record IsFilled (places old bits new : List Bool) : Type 0 where
  pub same_length : length new ≡ length old
  pub kept : SameOutside places old new
  pub bits_are : bits ≡ extract new places

-- The content, by what is sent of it: the whole one. If bits are sent, these at the extracted places of the content
-- in reach; without the places or such a content none becomes known.
abbrev pub IsKnownContent : Content → Option (List Bool) → Option (List Bool) → Option (List Bool) → Type 0
IsKnownContent (Whole whole) places reached content = content ≡ Some whole
IsKnownContent (Part bits) (Some places) (Some reached) content = IsSomeAnd content (IsFilled places reached bits)
IsKnownContent (Part bits) (Some places) None content = content ≡ None
IsKnownContent (Part bits) None reached content = content ≡ None

-- ---- what fits it

abbrev pub IsWholeContent : Content → Type 0
IsWholeContent (Whole whole) = ⊤
IsWholeContent (Part bits) = ⊥

-- whole content is the content in reach outside these places
abbrev pub IsKept : List Bool → Option (List Bool) → Content → Type 0
IsKept places reached (Whole whole) = IfSome reached (λ was. SameOutside places was whole)
IsKept places reached (Part bits) = ⊤

-- With the known mask: a sent one is the same, a part of the content has a bit for each extracted place, and whole content
-- is the content in reach outside these.
pub record FitsMask (form : Form) (reached : Option (List Bool)) (mask : List Bool) : Type 0 where
  pub sent : IfSome form.sent (λ sent. sent ≡ mask)
  pub fits : Fits form mask
  pub kept : IsKept (wide form mask) reached form.content

-- Under a state, the bits spell the packet with the number t by this form of f places, and with it this mask and this
-- content become known, or none. Without a known mask the content is whole.
pub record Spells (f : ℕ) (state : State) (t : ℕ) (bits : List Bool) (form : Form) (mask content : Option (List Bool)) : Type 0 where
  pub is_form : IsForm f form
  pub bits_are : bits ≡ padded (form_bits form)
  pub mask_is : mask ≡ known_mask state t form
  pub unmasked : IfNone mask (IsWholeContent form.content)
  pub masked : IfSome mask (FitsMask form (known_by state t (change_of form)))
  pub content_is : IsKnownContent form.content (option_map (wide form) mask) (known_by state t (change_of form)) content

-- ---- what can't be understood

-- The known mask is out of reach, and the bits begin with those of a form of this level up to the bit which tells that
-- neither a mask nor whole content is sent. What follows may be anything.
pub record HasOpaqueFront (f : ℕ) (state : State) (t : ℕ) (bits : List Bool) (level : ℕ) : Type 0 where
  pub form : Form
  pub is_form : IsForm f form
  pub level_is : form.level ≡ level
  pub out_of_reach : in_reach state.mask t level ≡ None
  pub no_mask : form.sent ≡ None
  pub not_whole : IsWholeContent form.content → ⊥
  pub rest : List Bool
  pub bits_are : bits ≡ change_bits form ++ true ∷ rest
