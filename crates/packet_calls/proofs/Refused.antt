-- What is amiss with a mask or an input that has no spare bit.
use Rattle.std.proofs.Common.{◌≡◌, ◌↔◌, ℕ, ◌≤◌, ◌^◌, Bool, true, false, IsTrue, List, length, drop, refl, sym, Option, Some, None, arith, inl, inr}
use Rattle.std.specs.Prelude.{Contains, nat_lt, if◌then◌else◌}
use Rattle.std.proofs.lemmas.Bool.{cases_Bool, eq-eqb, false≢true, le-ltb, ne_eqb}
use Rattle.std.proofs.lemmas.List.Folds.{list_any_at}
use Rattle.bit_vectors.specs.Vectors.{bits_of, byte_count, has_spare_bit}
use Rattle.bit_vectors.proofs.Lists.{one_in}
use Rattle.packet_calls.specs.declared.fault.SendFault.{SendFault}
use Rattle.packet_calls.specs.declared.fault.SendFault.TheVariants.{Robust, NoRoom, TooMany}
use Rattle.packet_calls.specs.Sending.{SenderState, mask_fits, room_bytes}
use Rattle.packet_calls.specs.Refusals.{opening_fault, sending_fault}

no_spare_bit : (f : ℕ) (bytes : List ℕ) → (Contains (drop f (bits_of bytes)) true → ⊥) → has_spare_bit f bytes ≡ false
no_spare_bit f bytes none = elim (cases_Bool (has_spare_bit f bytes)) [
  | inl any ↦ absurd (none (one_in (drop f (bits_of bytes)) any))
  | inr other ↦ other
]

pub spare_bit-is : (f : ℕ) (bytes : List ℕ) (found : Bool) → (IsTrue found ↔ Contains (drop f (bits_of bytes)) true) → found ≡ has_spare_bit f bytes
spare_bit-is f bytes true told =
    let one = told.0 refl in
    sym (list_any_at (λ (bit : Bool). bit) (drop f (bits_of bytes)) one.0 true one.1 one.2)
spare_bit-is f bytes false told = sym (no_spare_bit f bytes (λ one. absurd (false≢true (told.1 one))))

-- a mask is given, and a bit of it that belongs to no place is 1
abbrev pub HasSpareBit : ℕ → Option (List ℕ) → Type 0
HasSpareBit f None = ⊥
HasSpareBit f (Some bytes) = Contains (drop f (bits_of bytes)) true

pub opening_fault-none : (f : ℕ) (mask : Option (List ℕ)) → 1 ≤ f → f ≤ 49152 → mask_fits f mask ≡ true → (HasSpareBit f mask → ⊥)
    → None ≡ opening_fault f mask
opening_fault-none f None some most fits none = rw (ne_eqb f 0 (omega arith), le-ltb 49152 f (omega arith)) refl
opening_fault-none f (Some bytes) some most fits none =
    rw (ne_eqb f 0 (omega arith), le-ltb 49152 f (omega arith), fits, no_spare_bit f bytes none) refl

-- what is amiss with an input that is one
abbrev pub fault_after : SenderState → ℕ → ℕ → Option SendFault
fault_after s robust room =
    if nat_lt 7 robust then Some Robust
    else if nat_lt room (room_bytes (length s.encoder.masks.mask)) then Some NoRoom
    else if nat_lt s.encoder.masks.taken (2 ^ 32) then None
    else Some TooMany

pub sending_fault-input : (s : SenderState) (input : List ℕ) (robust room : ℕ) → length input ≡ byte_count (length s.encoder.masks.mask)
    → (Contains (drop (length s.encoder.masks.mask) (bits_of input)) true → ⊥) → fault_after s robust room ≡ sending_fault s input robust room
sending_fault-input s input robust room fits none =
    rw (eq-eqb (length input) (byte_count (length s.encoder.masks.mask)) fits, no_spare_bit (length s.encoder.masks.mask) input none) refl
