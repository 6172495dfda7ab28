-- Reading a packet from its first bit to its last, as functions of the bits that are left.
use Rattle.std.specs.Prelude.{◌≡◌, ℕ, ◌+◌, ◌-◌, ◌*◌, nat_lt, Bool, true, false, not, ◌&&◌, ◌||◌, if◌then◌else◌, List, [], ◌∷◌, length, count_by, replicate, slice_index_or, Option, None, Some, Result, Ok, Err}
use Rattle.std.specs.List.{list_any}
use Rattle.bit_vectors.specs.declared.fault.BitFault.{BitFault}
use Rattle.bit_vectors.specs.declared.fault.BitFault.TheVariants.{Wrong, EndsEarly}
use Rattle.bit_vectors.specs.Vectors.{byte_count}
use Rattle.bit_vectors.specs.Reading.{EyeState, bits_left, Parsed, Read, WrongBit, TooShort, ◌>>=◌, any_bit, bit_where, allowed, parse_front, parse_number, parse_word}
use Rattle.count_code.specs.Code.{count_bits}
use Rattle.run_code.specs.Extraction.{places_down, parse_filled, parse_inverse}
use Rattle.run_code.specs.Runs.{edges, run_bits, parse_vector}
use Rattle.packet_encode.specs.Forms.{Directions, wide_by}
use Rattle.packet_decode.specs.declared.decoder.Reading.{Reading}
use Rattle.packet_decode.specs.declared.decoder.Reading.TheVariants.{Written, Unsynced, Gap}
use Rattle.packet_decode.specs.State.{KnownVector, State, Change, deduced_by, known_by}

-- what the parts after the first one say: the mask and the content that become known, or too little to understand them
pub data Outcome : Type 0 where
  Spelled : Option (List Bool) → Option (List Bool) → Outcome
  Opaque : Outcome

-- the first part and what the others say
pub record Found : Type 0 where
  pub change : Change
  pub outcome : Outcome

-- ---- general readers

-- A vector from place 0 up that has the known bit at each place but these. The first bit that differs is wrong.
unfoldable pub parse_kept : List Bool → List Bool → List Bool → Parsed (List Bool)
parse_kept [] known bits = Read [] bits
parse_kept (free ∷ places) [] bits = Read [] bits
parse_kept (free ∷ places) (was ∷ known) bits =
    bit_where (allowed (free || not was) (free || was)) bits
    >>= λ bit rest. parse_kept places known rest
    >>= λ content last. Read (bit ∷ content) last

-- What a call answered, seen by view, is what reading the bits left gives. After a fault the eye may stand anywhere: the
-- fault itself names the bit.
abbrev pub Tells : {A B : Type 0} → (A → B) → Result A BitFault → EyeState → Parsed B → Type 0
Tells view (Ok x) new reading = reading ≡ Read (view x) (bits_left new)
Tells view (Err (Wrong bit)) new reading = (rest : List Bool) × (reading ≡ WrongBit rest) × (bit + 1 + length rest ≡ length new.bits)
Tells view (Err (EndsEarly bit)) new reading = (reading ≡ TooShort) × (bit ≡ length new.bits)

-- ---- the first part

-- the directions of these recent changes: which places became predictable, and whether all are extracted
unfoldable pub parse_named : List Bool → List Bool → Parsed Directions
parse_named recent bits =
    parse_inverse recent bits
    >>= λ predictable rest. any_bit rest
    >>= λ twice last. Read (record { predictable = predictable; twice = twice }) last

-- whether directions are sent, which they can be if there are recent changes and a level above 0
unfoldable pub parse_directions : List Bool → ℕ → List Bool → Parsed (Option Directions)
parse_directions recent level bits =
    if list_any (λ bit. bit) recent && nat_lt 0 level then
    (any_bit bits >>= λ sent rest. if sent then (parse_named recent rest >>= λ directions last. Read (Some directions) last) else Read None rest)
    else Read None bits

unfoldable pub parse_change : ℕ → List Bool → Parsed Change
parse_change f bits =
    parse_vector f bits
    >>= λ recent rest. parse_number 4 rest
    >>= λ level more. parse_directions recent level more
    >>= λ directions last. Read (record { recent = recent; level = level; directions = directions }) last

-- ---- the mask

-- the mask with these edges
unfoldable pub from_edges : List Bool → List Bool
from_edges [] = []
from_edges (edge ∷ edges) =
    let rest = from_edges edges in
    (if edge then not (slice_index_or rest 0 false) else slice_index_or rest 0 false) ∷ rest

-- a sent mask, which is the deduced one if there is one
unfoldable pub parse_mask : ℕ → Option (List Bool) → List Bool → Parsed (List Bool)
parse_mask f None bits = parse_vector f bits >>= λ runs rest. Read (from_edges runs) rest
parse_mask f (Some mask) bits = parse_word (run_bits (edges mask)) bits >>= λ u rest. Read mask rest

-- ---- the content

-- the whole content; if a content is known, it has the bit of that at each place but these
unfoldable pub parse_whole : ℕ → List Bool → Option (List Bool) → List Bool → Parsed (List Bool)
parse_whole f places None bits = parse_word (count_bits f) bits >>= λ u rest. parse_front f rest
parse_whole f places (Some known) bits = parse_word (count_bits f) bits >>= λ u rest. parse_kept places known rest

-- the same, with a mask
unfoldable pub parse_whole_with : ℕ → Change → List Bool → Option (List Bool) → List Bool → Parsed Outcome
parse_whole_with f change mask known bits =
    parse_whole f (wide_by change.directions change.recent mask) known bits
    >>= λ content rest. Read (Spelled (Some mask) (Some content)) rest

-- the same, without a mask, so that there is nothing to compare it with
unfoldable pub parse_whole_alone : ℕ → List Bool → Parsed Outcome
parse_whole_alone f bits =
    parse_whole f [] None bits
    >>= λ content rest. Read (Spelled None (Some content)) rest

-- the extracted bits, with a mask; if no content is known, they are read, but they tell no content
unfoldable pub parse_part_with : Change → List Bool → Option (List Bool) → List Bool → Parsed Outcome
parse_part_with change mask None bits =
    parse_front (count_by (λ bit. bit) (wide_by change.directions change.recent mask)) bits
    >>= λ part rest. Read (Spelled (Some mask) None) rest
parse_part_with change mask (Some known) bits =
    parse_filled (places_down (wide_by change.directions change.recent mask)) known bits
    >>= λ content rest. Read (Spelled (Some mask) (Some content)) rest

-- whether the content is whole, and the content
unfoldable pub parse_content : ℕ → Change → List Bool → Option (List Bool) → List Bool → Parsed Outcome
parse_content f change mask known bits =
    any_bit bits
    >>= λ whole rest. if whole then parse_whole_with f change mask known rest else parse_part_with change mask known rest

-- ---- the parts after the first

-- neither a mask nor whole content is sent
unfoldable pub parse_unsent : Change → Option (List Bool) → Option (List Bool) → List Bool → Parsed Outcome
parse_unsent change None known bits = Read Opaque bits
parse_unsent change (Some mask) known bits = parse_part_with change mask known bits

-- whole content is sent without a mask
unfoldable pub parse_maskless : ℕ → Change → Option (List Bool) → Option (List Bool) → List Bool → Parsed Outcome
parse_maskless f change None known bits =
    bit_where (allowed false true) bits
    >>= λ whole rest. parse_whole_alone f rest
parse_maskless f change (Some mask) known bits =
    bit_where (allowed false true) bits
    >>= λ whole rest. parse_whole_with f change mask known rest

-- a mask is sent
unfoldable pub parse_masked : ℕ → Change → Option (List Bool) → Option (List Bool) → List Bool → Parsed Outcome
parse_masked f change deduced known bits =
    parse_mask f deduced bits
    >>= λ mask rest. parse_content f change mask known rest

-- a mask or whole content is sent
unfoldable pub parse_sent : ℕ → Change → Option (List Bool) → Option (List Bool) → List Bool → Parsed Outcome
parse_sent f change deduced known bits =
    any_bit bits
    >>= λ masked rest. if masked then parse_masked f change deduced known rest else parse_maskless f change deduced known rest

-- the parts after the first, by the deduced mask and the known content, if there are such
unfoldable pub parse_data : ℕ → Change → Option (List Bool) → Option (List Bool) → List Bool → Parsed Outcome
parse_data f change deduced known bits =
    any_bit bits
    >>= λ unsent rest. if unsent then parse_unsent change deduced known rest else parse_sent f change deduced known rest

-- ---- the packet

-- all parts; the state is consulted after the first
unfoldable pub parse_parts : ℕ → State → ℕ → List Bool → Parsed Found
parse_parts f state t bits =
    parse_change f bits
    >>= λ change rest. parse_data f change (deduced_by state t change) (known_by state t change) rest
    >>= λ outcome last. Read (record { change = change; outcome = outcome }) last

-- after so many bits of a packet that is spelled, the zeros that fill whole bytes
unfoldable pub parse_padding : Outcome → ℕ → List Bool → Parsed (Unit {0})
parse_padding (Spelled mask content) used bits = parse_word (replicate (8 * byte_count used - used) false) bits
parse_padding Opaque used bits = Read tt bits

-- after a packet that is spelled, the end
unfoldable pub parse_end : Outcome → List Bool → Parsed (Unit {0})
parse_end (Spelled mask content) [] = Read tt []
parse_end (Spelled mask content) (bit ∷ rest) = WrongBit rest
parse_end Opaque bits = Read tt bits

-- all parts and the padding
unfoldable pub parse_packet : ℕ → State → ℕ → List Bool → Parsed Found
parse_packet f state t bits =
    parse_parts f state t bits
    >>= λ found rest. parse_padding found.outcome (length bits - length rest) rest
    >>= λ u last. Read found last

-- a packet and nothing after it, or an opaque front
unfoldable pub parse_whole_packet : ℕ → State → ℕ → List Bool → Parsed Found
parse_whole_packet f state t bits =
    parse_packet f state t bits
    >>= λ found rest. parse_end found.outcome rest
    >>= λ u last. Read found last

-- ---- the answer

-- a packet of which a part did not become known: nothing of that part was known before, or it was, and there is a gap
abbrev pub missed : Option KnownVector → ℕ → Bool → Reading
missed None level mask = Unsynced mask
missed (Some known) level mask = Gap level mask

abbrev pub outcome_answer : State → ℕ → Outcome → Reading
outcome_answer state level (Spelled mask (Some content)) = Written
outcome_answer state level (Spelled mask None) = missed state.content level true
outcome_answer state level Opaque = missed state.mask level false

-- what was read of all bits, as an answer
abbrev pub parsed_answer : State → List Bool → Parsed Found → Result Reading BitFault
parsed_answer state bits (Read found rest) = Ok (outcome_answer state found.change.level found.outcome)
parsed_answer state bits (WrongBit rest) = Err (Wrong (length bits - length rest - 1))
parsed_answer state bits TooShort = Err (EndsEarly (length bits))

-- under a state, the answer to the bits of the packet with the number t
abbrev pub answer_of : ℕ → State → ℕ → List Bool → Result Reading BitFault
answer_of f state t bits = parsed_answer state bits (parse_whole_packet f state t bits)
