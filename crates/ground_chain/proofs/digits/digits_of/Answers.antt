use Rattle.std.proofs.Common.{ℕ, ◌+◌, ◌*◌, ◌/◌, ◌%◌, ◌==◌, Bool, true, ◌&&◌, List, slice_index, bit_and, w16, refl, ap, ap₂, ◌∙◌}
use Rattle.std.specs.Int.{to_le_bytes}
use Rattle.std.proofs.lemmas.Bool.{agree_below_at, and_parts, eqb-true}
use Rattle.hex.specs.Hex.{lower_digits}
use Rattle.ground_chain.proofs.digits.digits_of.Goals as goal

-- what is reckoned of the halves of a byte
abbrev reckoned : ℕ → ℕ → List ℕ
reckoned high low = to_le_bytes w16 (high + 256 * low + 12336 + 39 * bit_and ((high + 256 * low + 1542) / 16) 257)

-- whether it is the digits of the byte
abbrev are_digits : ℕ → Bool
are_digits byte =
    let digits = reckoned (byte / 16) (bit_and byte 15) in
    (slice_index digits 0 == slice_index lower_digits (byte / 16)) && (slice_index digits 1 == slice_index lower_digits (byte % 16))

pub returns : goal.returns
returns c =
    let are = c.to_le_bytes.ensures ∙ ap₂ reckoned c.from.ensures c.from-2.ensures in
    let (high, low) = and_parts _ _ (agree_below_at are_digits (λ _. true) 256 c.args.byte refl c.ranges.byte.fits) in
    record { high = ap (λ (l : List ℕ). slice_index l 0) are ∙ eqb-true _ _ high; low = ap (λ (l : List ℕ). slice_index l 1) are ∙ eqb-true _ _ low }
