-- The first mask, as hexadecimal digits denote it.
use Rattle.std.specs.Prelude.{ℕ, Bool, false, if◌then◌else◌, List, take, replicate, Option, Some, None, Result, Ok, Err, unwrap_or, is_some}
use Rattle.std.specs.Option.{option_map}
use Rattle.bit_vectors.specs.Vectors.{bits_of, byte_count, has_spare_bit}
use Rattle.hex.specs.Hex.{decode_sized}
use Rattle.hex.specs.declared.error.FromHexError.{FromHexError}

abbrev pub unless_spare : ℕ → Result (List ℕ) FromHexError → Option (List ℕ)
unless_spare f (Err error) = None
unless_spare f (Ok bytes) = if has_spare_bit f bytes then None else Some bytes

-- the bytes of a vector of f places that a text denotes: two digits for each, and no spare bit is one
abbrev pub mask_bytes : ℕ → List ℕ → Option (List ℕ)
mask_bytes f text = unless_spare f (decode_sized text (byte_count f))

-- its vector
abbrev pub mask_of : ℕ → List ℕ → Option (List Bool)
mask_of f text = option_map (λ bytes. take f (bits_of bytes)) (mask_bytes f text)

-- the text denotes a vector of f places
abbrev pub is_mask : ℕ → List ℕ → Bool
is_mask f text = is_some (mask_of f text)

abbrev pub no_mask : ℕ → List Bool
no_mask f = replicate f false

-- the first mask: that of the text, zero if there is none
abbrev pub first_mask : ℕ → Option (List ℕ) → List Bool
first_mask f None = no_mask f
first_mask f (Some text) = unwrap_or (mask_of f text) (no_mask f)
