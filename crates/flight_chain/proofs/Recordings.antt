-- The walk over a recording: its equation, what it means, and what a reading of one packet tells of it.
use Rattle.std.specs.Io.KnownBytes.{IsAtEnd}
use Rattle.std.specs.List.{list_any}
use Rattle.std.specs.Prelude.{nat_lt, ◌≢◌, Contains, All}
use Rattle.std.proofs.Common.{◌≡◌, ℕ, zero, suc, ◌+◌, ◌^◌, ◌<◌, ◌≤◌, Bool, true, false, ◌==◌, if◌then◌else◌, List, [], ◌∷◌, length, drop, Option, Some, None, refl, sym, ap, ◌∙◌, length-drop, arith, ◌++◌, take, IfSome, subst, append_assoc, length-append, append-nil, inl, inr, ◌-◌, take-append-drop, replicate, ◌*◌}
use Rattle.std.proofs.lemmas.Bool.{lt-ltb, le-ltb, ltb-false, false≢true, cases_Bool, cases_lt, true≢false}
use Rattle.std.proofs.lemmas.Grind.{common_steps}
use Rattle.std.proofs.lemmas.List.{take_at, drop_at, length-take-le, length-replicate, get_or_past, get_or-replicate}
use Rattle.std.proofs.lemmas.List.Elements.{All-cons, All-nil, All-tail, All-drop, All-take}
use Rattle.bit_vectors.specs.Vectors.{byte_count, has_spare_bit, bits_of, AreBytes, vector_bytes}
use Rattle.bit_vectors.proofs.Lists.{one_in}
use Rattle.bit_vectors.proofs.NumberBits.{length-bits_of, length-vector_bytes, bits_of-vector_bytes, take-bits_of-vector_bytes, stored_is}
use Rattle.desk_ports.specs.Meanings.{Meanings, left, ReadsOn}
use Rattle.desk_ports.specs.declared.desk.Inlet.TheVariants as inlet
use Rattle.desk_ports.proofs.Courses.{rest_of, IfSome-rest_of, IfSome-IsAtEnd}
use Rattle.packet_store.proofs.Walks.{not_full}
use Rattle.flight_chain.specs.Reading.{TakesInput, Stops, Waits}
use Rattle.flight_chain.specs.Recordings.{first_packet, first_input, fault_at, RecordingWalk, walked, stopped_at, input_first, by_fault, recording_step, recording_walk_by, recording_walk_from, recording_of, ending_at}
use Rattle.flight_chain.specs.declared.fault.RecordFault.{RecordFault}
use Rattle.flight_chain.specs.declared.fault.RecordFault.TheVariants.{CutRecord, SpareBit, TooMany}

-- ---- the walk over a recording: its equation, whatever the steps that it may take

recording_walk_by-end : (steps f t : ℕ) → recording_walk_by steps f t [] ≡ walked
unfolding recording_walk_by
recording_walk_by-end zero f t = refl
recording_walk_by-end (suc steps) f t = refl

recording_walk_by-suc : (steps f t : ℕ) (bytes : List ℕ) → recording_walk_by (suc steps) f t bytes ≡ recording_step f t bytes (λ rest. recording_walk_by steps f (t + 1) rest)
unfolding recording_walk_by
recording_walk_by-suc steps f t bytes = refl

-- more steps than there are bytes change nothing
recording_walk_by-more : (m n f t : ℕ) (bytes : List ℕ) → 1 ≤ f → length bytes ≤ m → length bytes ≤ n → recording_walk_by m f t bytes ≡ recording_walk_by n f t bytes
recording_walk_by-more m n f t [] some few less = recording_walk_by-end m f t ∙ sym (recording_walk_by-end n f t)
recording_walk_by-more zero n f t (b ∷ bytes) some few less = absurd (omega arith)
recording_walk_by-more (suc m) zero f t (b ∷ bytes) some few less = absurd (omega arith)
recording_walk_by-more (suc m) (suc n) f t (b ∷ bytes) some few less =
    let rest = drop (byte_count f) (b ∷ bytes) in
    let shorter : length rest ≤ length bytes = omega (arith, length-drop (byte_count f) (b ∷ bytes)) in
    recording_walk_by-suc m f t (b ∷ bytes)
    ∙ (ap (λ (w : RecordingWalk). by_fault (fault_at f t (b ∷ bytes)) (b ∷ bytes) (input_first (first_input f (b ∷ bytes)) w)) (recording_walk_by-more m n f (t + 1) rest some (omega arith) (omega arith))
    ∙ sym (recording_walk_by-suc n f t (b ∷ bytes)))

-- nothing is left
pub recording_walk_from-none : (f t : ℕ) → recording_walk_from f t [] ≡ walked
unfolding recording_walk_from
recording_walk_from-none f t = recording_walk_by-end 0 f t

-- the walk goes step by step
pub recording_walk_from-step : (f t b : ℕ) (bytes : List ℕ) → 1 ≤ f
    → recording_walk_from f t (b ∷ bytes) ≡ by_fault (fault_at f t (b ∷ bytes)) (b ∷ bytes) (input_first (first_input f (b ∷ bytes)) (recording_walk_from f (t + 1) (drop (byte_count f) (b ∷ bytes))))
unfolding recording_walk_from
recording_walk_from-step f t b bytes some =
    let rest = drop (byte_count f) (b ∷ bytes) in
    let shorter : length rest ≤ length bytes = omega (arith, length-drop (byte_count f) (b ∷ bytes)) in
    recording_walk_by-suc (length bytes) f t (b ∷ bytes)
    ∙ ap (λ (w : RecordingWalk). by_fault (fault_at f t (b ∷ bytes)) (b ∷ bytes) (input_first (first_input f (b ∷ bytes)) w)) (recording_walk_by-more (length bytes) (length rest) f (t + 1) rest some shorter (omega arith))

-- the walk ends before bytes that don't begin with a packet
pub recording_walk_from-fault : (f t : ℕ) (bytes : List ℕ) (fault : RecordFault) → 1 ≤ f → 0 < length bytes → fault_at f t bytes ≡ Some fault → recording_walk_from f t bytes ≡ stopped_at fault bytes
recording_walk_from-fault f t [] fault some nonempty at = absurd (omega arith)
recording_walk_from-fault f t (b ∷ bytes) fault some nonempty at =
    recording_walk_from-step f t b bytes some
    ∙ ap (λ (found : Option RecordFault). by_fault found (b ∷ bytes) (input_first (first_input f (b ∷ bytes)) (recording_walk_from f (t + 1) (drop (byte_count f) (b ∷ bytes))))) at

-- and goes on after one
pub recording_walk_from-packet : (f t : ℕ) (bytes : List ℕ) → 1 ≤ f → 0 < length bytes → fault_at f t bytes ≡ None
    → recording_walk_from f t bytes ≡ input_first (first_input f bytes) (recording_walk_from f (t + 1) (drop (byte_count f) bytes))
recording_walk_from-packet f t [] some nonempty at = absurd (omega arith)
recording_walk_from-packet f t (b ∷ bytes) some nonempty at =
    recording_walk_from-step f t b bytes some
    ∙ ap (λ (found : Option RecordFault). by_fault found (b ∷ bytes) (input_first (first_input f (b ∷ bytes)) (recording_walk_from f (t + 1) (drop (byte_count f) (b ∷ bytes))))) at

-- ---- the checks of a packet

by_checks : ℕ → Bool → Bool → Bool → Option RecordFault
by_checks t full short spare = if full then Some TooMany else if short then Some (CutRecord t) else if spare then Some (SpareBit t) else None

checked : (f t : ℕ) (bytes : List ℕ) (full short spare : Bool) → (t == 2 ^ 32) ≡ full → nat_lt (length bytes) (byte_count f) ≡ short → has_spare_bit f (first_packet f bytes) ≡ spare → fault_at f t bytes ≡ by_checks t full short spare
unfolding by_checks
checked f t bytes full short spare is_full is_short is_spare = λ i. by_checks t (is_full i) (is_short i) (is_spare i)

is_full : (t : ℕ) → t ≡ 2 ^ 32 → (t == 2 ^ 32) ≡ true
is_full t full = grind (arith, common_steps)

pub fault_at-too_many : (f t : ℕ) (bytes : List ℕ) → t ≡ 2 ^ 32 → fault_at f t bytes ≡ Some TooMany
unfolding by_checks
fault_at-too_many f t bytes full = checked f t bytes true _ _ (is_full t full) refl refl

pub fault_at-cut : (f t : ℕ) (bytes : List ℕ) → t < 2 ^ 32 → length bytes < byte_count f → fault_at f t bytes ≡ Some (CutRecord t)
unfolding by_checks
fault_at-cut f t bytes few short = checked f t bytes false true _ (not_full t few) (lt-ltb (length bytes) (byte_count f) short) refl

pub fault_at-spare : (f t : ℕ) (bytes : List ℕ) → t < 2 ^ 32 → byte_count f ≤ length bytes → has_spare_bit f (first_packet f bytes) ≡ true → fault_at f t bytes ≡ Some (SpareBit t)
unfolding by_checks
fault_at-spare f t bytes few long spare = checked f t bytes false false true (not_full t few) (le-ltb (length bytes) (byte_count f) long) spare

pub fault_at-none : (f t : ℕ) (bytes : List ℕ) → t < 2 ^ 32 → byte_count f ≤ length bytes → has_spare_bit f (first_packet f bytes) ≡ false → fault_at f t bytes ≡ None
unfolding by_checks
fault_at-none f t bytes few long spare = checked f t bytes false false false (not_full t few) (le-ltb (length bytes) (byte_count f) long) spare

checks_passed : (t : ℕ) (full short spare : Bool) → by_checks t full short spare ≡ None → (full ≡ false) × (short ≡ false) × (spare ≡ false)
unfolding by_checks
checks_passed t true short spare none = absurd cc
checks_passed t false true spare none = absurd cc
checks_passed t false false true none = absurd cc
checks_passed t false false false none = (refl, refl, refl)

-- what bytes have that begin with a packet
pub record BeginWithPacket (f t : ℕ) (bytes : List ℕ) : Type 0 where
  pub few : t ≢ 2 ^ 32
  pub long : byte_count f ≤ length bytes
  pub spare : has_spare_bit f (first_packet f bytes) ≡ false

pub fault_at-told : (f t : ℕ) (bytes : List ℕ) → fault_at f t bytes ≡ None → BeginWithPacket f t bytes
unfolding by_checks
fault_at-told f t bytes none =
    let passed = checks_passed t (t == 2 ^ 32) (nat_lt (length bytes) (byte_count f)) (has_spare_bit f (first_packet f bytes)) none in
    record {
      few = λ full. false≢true (sym passed.0 ∙ is_full t full);
      long = ltb-false (length bytes) (byte_count f) passed.1;
      spare = passed.2;
    }

-- ---- what a reading of one packet tells of the walk

pub any_one : (bits : List Bool) → Contains bits true → list_any (λ (bit : Bool). bit) bits ≡ true
any_one [] (k, within, is) = absurd (omega arith)
any_one (true ∷ bits) one = refl
any_one (false ∷ bits) (zero, within, is) = absurd cc
any_one (false ∷ bits) (suc k, within, is) = any_one bits (k, omega arith, is)

none_one : (bits : List Bool) → (Contains bits true → ⊥) → list_any (λ (bit : Bool). bit) bits ≡ false
none_one bits none = elim (cases_Bool (list_any (λ (bit : Bool). bit) bits)) [
  | inl any ↦ absurd (none (one_in bits any))
  | inr other ↦ other
]

-- what a packet is does not depend on what follows it
first_packet-at : (f : ℕ) (packet rest : List ℕ) → length packet ≡ byte_count f → first_packet f (packet ++ rest) ≡ packet
first_packet-at f packet rest whole = take_at packet rest (byte_count f) whole

pub has_spare_bit-at : (f : ℕ) (packet rest : List ℕ) → length packet ≡ byte_count f → has_spare_bit f (first_packet f (packet ++ rest)) ≡ list_any (λ (bit : Bool). bit) (drop f (bits_of packet))
has_spare_bit-at f packet rest whole = ap (λ (bytes : List ℕ). list_any (λ (bit : Bool). bit) (drop f (bits_of bytes))) (first_packet-at f packet rest whole)

-- a whole packet with no spare bit, and then the walk after it
pub recording_walk_from-whole : (f t : ℕ) (packet rest : List ℕ) → 1 ≤ f → t < 2 ^ 32 → length packet ≡ byte_count f → (Contains (drop f (bits_of packet)) true → ⊥)
    → recording_walk_from f t (packet ++ rest) ≡ input_first (take f (bits_of packet)) (recording_walk_from f (t + 1) rest)
recording_walk_from-whole f t packet rest some few whole none =
    let nonempty : 0 < length (packet ++ rest) = omega (arith, length-append packet rest) in
    let long : byte_count f ≤ length (packet ++ rest) = omega (arith, length-append packet rest) in
    let spare = has_spare_bit-at f packet rest whole ∙ none_one (drop f (bits_of packet)) none in
    let front = ap (λ (bytes : List ℕ). take f (bits_of bytes)) (first_packet-at f packet rest whole) in
    let written_first = drop_at packet rest (byte_count f) whole in
    recording_walk_from-packet f t (packet ++ rest) some nonempty (fault_at-none f t (packet ++ rest) few long spare)
    ∙ λ i. input_first (front i) (recording_walk_from f (t + 1) (written_first i))

-- what is ahead and left is as before
same_input : (before held : List ℕ) (a b : Meanings) (read : ReadsOn before held a b) (rest : List ℕ) → before ++ (read.bytes ++ rest) ≡ held ++ rest
same_input before held a b read rest = sym (append_assoc before read.bytes rest) ∙ ap (λ l. l ++ rest) (sym read.joined)

pub TakesInput-whole : (f t n : ℕ) (before held : List ℕ) (a b : Meanings) (input : List Bool) → 1 ≤ f → t < 2 ^ 32 → n ≡ byte_count f → n ≤ length held → (Contains (drop f (bits_of (take n held))) true → ⊥)
    → input ≡ take f (bits_of (take n held)) → length input ≡ f → ReadsOn before held a b → TakesInput f t before (drop n held) a b input
TakesInput-whole f t n before held a b input some few size long none is places read =
    let packet = take n held in
    let whole : length packet ≡ byte_count f = omega (arith, size, length-take-le n held long) in
    record {
      taken = read.bytes;
      moved = read.moved;
      places = places;
      few = few;
      goes_on = λ rest.
          ap (recording_walk_from f t) (same_input before held a b read rest ∙ (ap (λ l. l ++ rest) (sym (take-append-drop n held)) ∙ append_assoc packet (drop n held) rest))
          ∙ (recording_walk_from-whole f t packet (drop n held ++ rest) some few whole none ∙ ap (λ (v : List Bool). input_first v (recording_walk_from f (t + 1) (drop n held ++ rest))) (sym is));
    }

-- a packet that is ahead begins no packet of the walk
Stops-held : (f t : ℕ) (before held rest : List ℕ) (a b : Meanings) (fault : RecordFault) → 1 ≤ f → 0 < length held → ReadsOn before held a b → IfSome (left b inlet.Main) (λ bytes. bytes ≡ rest) → fault_at f t (held ++ rest) ≡ Some fault → Stops f t before a b fault
Stops-held f t before held rest a b fault some nonempty read told is = record {
  taken = read.bytes;
  rest = rest;
  moved = read.moved;
  told = told;
  ends = subst (λ bytes. recording_walk_from f t bytes ≡ stopped_at fault bytes) (sym (same_input before held a b read rest)) (recording_walk_from-fault f t (held ++ rest) fault some (omega (arith, length-append held rest)) is);
}

pub Stops-too_many : (f t : ℕ) (before held : List ℕ) (a b : Meanings) → 1 ≤ f → t ≡ 2 ^ 32 → 0 < length held → ReadsOn before held a b → Stops f t before a b TooMany
Stops-too_many f t before held a b some full nonempty read =
    let rest = rest_of (left b inlet.Main) in
    Stops-held f t before held rest a b TooMany some nonempty read (IfSome-rest_of (left b inlet.Main)) (fault_at-too_many f t (held ++ rest) full)

pub Stops-cut : (f t : ℕ) (before held : List ℕ) (a b : Meanings) → 1 ≤ f → t < 2 ^ 32 → 0 < length held → length held < byte_count f → ReadsOn before held a b → IsAtEnd (left b inlet.Main) → Stops f t before a b (CutRecord t)
Stops-cut f t before held a b some few nonempty short read at_end =
    let all : length (held ++ []) ≡ length held = ap length (append-nil held) in
    Stops-held f t before held [] a b (CutRecord t) some nonempty read (IfSome-IsAtEnd (left b inlet.Main) at_end) (fault_at-cut f t (held ++ []) few (omega arith))

pub Stops-spare : (f t n : ℕ) (before held : List ℕ) (a b : Meanings) → 1 ≤ f → t < 2 ^ 32 → n ≡ byte_count f → n ≤ length held → Contains (drop f (bits_of (take n held))) true → ReadsOn before held a b → Stops f t before a b (SpareBit t)
Stops-spare f t n before held a b some few size long one read =
    let rest = rest_of (left b inlet.Main) in
    let packet = take n held in
    let whole : length packet ≡ byte_count f = omega (arith, size, length-take-le n held long) in
    let split = ap (λ l. l ++ rest) (sym (take-append-drop n held)) ∙ append_assoc packet (drop n held) rest in
    let spare = ap (λ bytes. has_spare_bit f (first_packet f bytes)) split ∙ (has_spare_bit-at f packet (drop n held ++ rest) whole ∙ any_one (drop f (bits_of packet)) one) in
    let nonempty : 0 < length held = omega (arith, size, long) in
    Stops-held f t before held rest a b (SpareBit t) some nonempty read (IfSome-rest_of (left b inlet.Main)) (fault_at-spare f t (held ++ rest) few (omega (arith, size, long, length-append held rest)) spare)

no_input : (f t : ℕ) (bytes : List ℕ) → 1 ≤ f → t ≤ 2 ^ 32 → length bytes < byte_count f → (recording_walk_from f t bytes).inputs ≡ []
no_input f t [] some few short = ap (λ (w : RecordingWalk). w.inputs) (recording_walk_from-none f t)
no_input f t (b ∷ bytes) some few short = elim (cases_lt t (2 ^ 32)) [
  | inl lt ↦ ap (λ (w : RecordingWalk). w.inputs) (recording_walk_from-fault f t (b ∷ bytes) (CutRecord t) some (omega arith) (fault_at-cut f t (b ∷ bytes) lt short))
  | inr le ↦ ap (λ (w : RecordingWalk). w.inputs) (recording_walk_from-fault f t (b ∷ bytes) TooMany some (omega arith) (fault_at-too_many f t (b ∷ bytes) (omega arith)))
]

pub Waits-short : (f t : ℕ) (before held : List ℕ) (a b : Meanings) → 1 ≤ f → t ≤ 2 ^ 32 → length held < byte_count f → ReadsOn before held a b → Waits f t before a b
Waits-short f t before held a b some few short read = record {
  taken = read.bytes;
  moved = read.moved;
  short = subst (λ (bytes : List ℕ). length bytes < byte_count f) read.joined short;
  none = subst (λ bytes. (recording_walk_from f t bytes).inputs ≡ []) read.joined (no_input f t held some few short);
}

-- ---- what the walk over a recording means

none_in_zeros : (n : ℕ) → Contains (replicate n false) true → ⊥
none_in_zeros n one =
    let inside : one.0 < n = rw (length-replicate n false) at one.1 in
    true≢false (sym one.2 ∙ get_or-replicate n one.0 false true inside)

-- the bytes of a vector have no spare bit
no_spare : (f : ℕ) (input : List Bool) → length input ≡ f → Contains (drop f (bits_of (vector_bytes input))) true → ⊥
no_spare f input places one =
    let zeros = 8 * byte_count (length input) - length input in
    let bits : drop f (bits_of (vector_bytes input)) ≡ replicate zeros false =
    ap (drop f) (bits_of-vector_bytes input) ∙ drop_at input (replicate zeros false) f places in
    none_in_zeros zeros (subst (λ (l : List Bool). Contains l true) bits one)

-- a recording of inputs is whole, and its walk has these inputs
pub recording_walk_from-recording_of : (f t : ℕ) (inputs : List (List Bool)) → 1 ≤ f → All (λ input. length input ≡ f) inputs → t + length inputs ≤ 2 ^ 32
    → recording_walk_from f t (recording_of inputs) ≡ record { inputs = inputs; rest = []; ending = None }
recording_walk_from-recording_of f t [] some all few = recording_walk_from-none f t
recording_walk_from-recording_of f t (input ∷ inputs) some all few =
    let places : length input ≡ f = all 0 input (omega arith) in
    let more : All (λ v. length v ≡ f) inputs = All-tail (λ (v : List Bool). length v ≡ f) input inputs all in
    let whole : length (vector_bytes input) ≡ byte_count f = length-vector_bytes input ∙ ap byte_count places in
    let same : take f (bits_of (vector_bytes input)) ≡ input = ap (λ (n : ℕ). take n (bits_of (vector_bytes input))) (sym places) ∙ take-bits_of-vector_bytes input in
    recording_walk_from-whole f t (vector_bytes input) (recording_of inputs) some (omega arith) whole (no_spare f input places)
    ∙ ((λ i. input_first (same i) (recording_walk_from f (t + 1) (recording_of inputs)))
    ∙ ap (input_first input) (recording_walk_from-recording_of f (t + 1) inputs some more (omega arith)))

-- ---- the parts of a walk

-- the first packet of bytes, and its vector
module _ (f t : ℕ) (bytes : List ℕ) (begin : BeginWithPacket f t bytes) where
  pub whole_packet : length (first_packet f bytes) ≡ byte_count f
  whole_packet = length-take-le (byte_count f) bytes begin.long

  pub clear_packet : Contains (drop f (bits_of (first_packet f bytes))) true → ⊥
  clear_packet one = false≢true (sym begin.spare ∙ any_one (drop f (bits_of (first_packet f bytes))) one)

  pub length-first_input : length (first_input f bytes) ≡ f
  length-first_input = length-take-le f (bits_of (first_packet f bytes)) (omega (arith, length-bits_of (first_packet f bytes), whole_packet))

AreBytes-All : (bytes : List ℕ) → All (λ b. b < 256) bytes → AreBytes bytes
AreBytes-All bytes all i = elim (cases_lt i (length bytes)) [
  | inl lt ↦ all i 0 lt
  | inr le ↦ omega (arith, get_or_past bytes i 0 le)
]

pub record IsWalk (f t : ℕ) (bytes : List ℕ) (w : RecordingWalk) : Type 0 where
  pub places : All (λ input. length input ≡ f) w.inputs
  pub joined : recording_of w.inputs ++ w.rest ≡ bytes
  pub few : t + length w.inputs ≤ 2 ^ 32
  pub ends : w.ending ≡ ending_at f (t + length w.inputs) w.rest

IsWalk-walked : (f t : ℕ) → t ≤ 2 ^ 32 → IsWalk f t [] walked
IsWalk-walked f t few = record { places = All-nil (λ (v : List Bool). length v ≡ f); joined = refl; few = omega arith; ends = refl }

IsWalk-stopped : (f t b : ℕ) (bytes : List ℕ) (fault : RecordFault) → t ≤ 2 ^ 32 → fault_at f t (b ∷ bytes) ≡ Some fault → IsWalk f t (b ∷ bytes) (stopped_at fault (b ∷ bytes))
IsWalk-stopped f t b bytes fault few at =
    let same : t ≡ t + 0 = omega arith in
    record {
      places = All-nil (λ (v : List Bool). length v ≡ f);
      joined = refl;
      few = omega arith;
      ends = sym at ∙ ap (λ (n : ℕ). fault_at f n (b ∷ bytes)) same;
    }

IsWalk-more : (f t : ℕ) (bytes : List ℕ) (w : RecordingWalk) → All (λ b. b < 256) bytes → BeginWithPacket f t bytes → IsWalk f (t + 1) (drop (byte_count f) bytes) w → IsWalk f t bytes (input_first (first_input f bytes) w)
IsWalk-more f t bytes w all begin is =
    let packet = first_packet f bytes in
    let below = AreBytes-All packet (All-take (λ b. b < 256) (byte_count f) bytes all) in
    let stored : packet ≡ vector_bytes (first_input f bytes) = stored_is packet f below (whole_packet f t bytes begin) (clear_packet f t bytes begin) in
    let number : t + 1 + length w.inputs ≡ t + suc (length w.inputs) = omega arith in
    record {
      places = All-cons (λ (v : List Bool). length v ≡ f) (first_input f bytes) w.inputs (length-first_input f t bytes begin) is.places;
      joined = append_assoc (vector_bytes (first_input f bytes)) (recording_of w.inputs) w.rest ∙ ((let unstored = sym stored in λ i. unstored i ++ is.joined i) ∙ take-append-drop (byte_count f) bytes);
      few = omega (arith, is.few);
      ends = is.ends ∙ ap (λ (n : ℕ). ending_at f n w.rest) number;
    }

-- a walk has these parts
pub IsWalk-recording : (n f t : ℕ) (bytes : List ℕ) → length bytes ≤ n → 1 ≤ f → t ≤ 2 ^ 32 → All (λ b. b < 256) bytes → IsWalk f t bytes (recording_walk_from f t bytes)
IsWalk-recording n f t [] short some few all = subst (IsWalk f t []) (sym (recording_walk_from-none f t)) (IsWalk-walked f t few)
IsWalk-recording zero f t (b ∷ bytes) short some few all = absurd (omega arith)
IsWalk-recording (suc n) f t (b ∷ bytes) short some few all = by_found (λ rest shorter fewer left. IsWalk-recording n f (t + 1) rest shorter some fewer left) (fault_at f t (b ∷ bytes)) refl where
  by_found : ((rest : List ℕ) → length rest ≤ n → t + 1 ≤ 2 ^ 32 → All (λ c. c < 256) rest → IsWalk f (t + 1) rest (recording_walk_from f (t + 1) rest)) → (found : Option RecordFault) → fault_at f t (b ∷ bytes) ≡ found
      → IsWalk f t (b ∷ bytes) (recording_walk_from f t (b ∷ bytes))
  by_found later (Some fault) at = subst (IsWalk f t (b ∷ bytes)) (sym (recording_walk_from-fault f t (b ∷ bytes) fault some (omega arith) at)) (IsWalk-stopped f t b bytes fault few at)
  by_found later None at =
      let begin = fault_at-told f t (b ∷ bytes) at in
      let rest = drop (byte_count f) (b ∷ bytes) in
      let shorter : length rest ≤ n = omega (arith, length-drop (byte_count f) (b ∷ bytes)) in
      let fewer : t + 1 ≤ 2 ^ 32 = omega (arith, begin.few) in
      let more = IsWalk-more f t (b ∷ bytes) (recording_walk_from f (t + 1) rest) all begin (later rest shorter fewer (All-drop (λ c. c < 256) (byte_count f) (b ∷ bytes) all)) in
      subst (IsWalk f t (b ∷ bytes)) (sym (recording_walk_from-packet f t (b ∷ bytes) some (omega arith) at)) more

-- ---- fronts

-- the walk of some bytes and more has the inputs of the walk of those, and later ones
pub record IsLonger (f t : ℕ) (bytes more : List ℕ) : Type 0 where
  pub later : List (List Bool)
  pub joined : (recording_walk_from f t (bytes ++ more)).inputs ≡ (recording_walk_from f t bytes).inputs ++ later

IsLonger-none : (f t : ℕ) (bytes more : List ℕ) → (recording_walk_from f t bytes).inputs ≡ [] → IsLonger f t bytes more
IsLonger-none f t bytes more none = record {
  later = (recording_walk_from f t (bytes ++ more)).inputs;
  joined = ap (λ (l : List (List Bool)). l ++ (recording_walk_from f t (bytes ++ more)).inputs) (sym none);
}

IsLonger-packet : (f t : ℕ) (bytes more : List ℕ) → 1 ≤ f → t ≤ 2 ^ 32 → 0 < length bytes → fault_at f t bytes ≡ None → IsLonger f (t + 1) (drop (byte_count f) bytes) more → IsLonger f t bytes more
IsLonger-packet f t bytes more some few nonempty at longer =
    let begin = fault_at-told f t bytes at in
    let packet = first_packet f bytes in
    let rest = drop (byte_count f) bytes in
    let short_walk = recording_walk_from-packet f t bytes some nonempty at in
    let split : bytes ++ more ≡ packet ++ (rest ++ more) = ap (λ (l : List ℕ). l ++ more) (sym (take-append-drop (byte_count f) bytes)) ∙ append_assoc packet rest more in
    let long_walk = ap (recording_walk_from f t) split ∙ recording_walk_from-whole f t packet (rest ++ more) some (omega (arith, begin.few)) (whole_packet f t bytes begin) (clear_packet f t bytes begin) in
    record {
      later = longer.later;
      joined = ap (λ (w : RecordingWalk). w.inputs) long_walk ∙ (ap (λ (l : List (List Bool)). first_input f bytes ∷ l) longer.joined ∙ ap (λ (w : RecordingWalk). w.inputs ++ longer.later) (sym short_walk));
    }

-- the walk of a front of some bytes has a front of their inputs
pub IsLonger-recording : (n f t : ℕ) (bytes more : List ℕ) → length bytes ≤ n → 1 ≤ f → t ≤ 2 ^ 32 → IsLonger f t bytes more
IsLonger-recording n f t [] more short some few = IsLonger-none f t [] more (ap (λ (w : RecordingWalk). w.inputs) (recording_walk_from-none f t))
IsLonger-recording zero f t (b ∷ bytes) more short some few = absurd (omega arith)
IsLonger-recording (suc n) f t (b ∷ bytes) more short some few = by_found (λ rest shorter fewer. IsLonger-recording n f (t + 1) rest more shorter some fewer) (fault_at f t (b ∷ bytes)) refl where
  by_found : ((rest : List ℕ) → length rest ≤ n → t + 1 ≤ 2 ^ 32 → IsLonger f (t + 1) rest more) → (found : Option RecordFault) → fault_at f t (b ∷ bytes) ≡ found → IsLonger f t (b ∷ bytes) more
  by_found later (Some fault) at = IsLonger-none f t (b ∷ bytes) more (ap (λ (w : RecordingWalk). w.inputs) (recording_walk_from-fault f t (b ∷ bytes) fault some (omega arith) at))
  by_found later None at =
      let begin = fault_at-told f t (b ∷ bytes) at in
      IsLonger-packet f t (b ∷ bytes) more some few (omega arith) at (later (drop (byte_count f) (b ∷ bytes)) (omega (arith, length-drop (byte_count f) (b ∷ bytes))) (omega (arith, begin.few)))
