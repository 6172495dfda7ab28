-- One packet of a history, to a decoder that knows the mask of one earlier step and the content of another, or none.
use Rattle.std.proofs.Common.{◌≡◌, ℕ, zero, suc, ◌+◌, ◌<◌, ltb, Bool, true, false, ◌&&◌, ◌||◌, if◌then◌else◌, List, length, Option, Some, None, Ok, refl, sym, ap, ◌∙◌, subst, arith}
use Rattle.std.specs.Prelude.{IfSome}
use Rattle.std.specs.Option.{option_map}
use Rattle.std.proofs.lemmas.Bool.{lt-ltb}
use Rattle.bit_vectors.specs.Vectors.{bits_of}
use Rattle.bit_vectors.proofs.NumberBits.{bits_of-vector_bytes}
use Rattle.mask_update.specs.Histories.{History, IsValid, flags_at, input_at}
use Rattle.mask_update.specs.Masks.{mask_at}
use Rattle.robust_window.specs.Histories.{level_at}
use Rattle.packet_encode.specs.Forms.{form_bits, form_at, packet_at}
use Rattle.packet_encode.specs.Deliveries.{latest_by, reaches, is_mask_known, is_mask_known_from, is_written, is_written_from, latest_mask_known, latest_of_missing, latest_written}
use Rattle.packet_encode.proofs.Deliveries.{latest_by-suc, latest_by-zero}
use Rattle.packet_decode.specs.State.{KnownVector, IsState, known_if, next_part, next_state, is_content_told, is_mask_told, true_state}
use Rattle.packet_decode.specs.PacketReading.{answer_of, missed}
use Rattle.packet_decode.proofs.OneAnswer.{opaque_read, spells_read}
use Rattle.packet_decode.proofs.OfHistories.{answer-mask_alone, answer-neither, answer-written, told-spelled, true_state-is, untold-opaque}
use Rattle.flight_chain.specs.Compressing.{data_at}
use Rattle.ground_chain.specs.declared.verdict.Kind.{Kind}
use Rattle.ground_chain.specs.declared.verdict.Kind.TheVariants.{Written, Unsynced, Gap}
use Rattle.ground_chain.specs.Run.{answer_kind, state_read, state_after}

-- a packet that arrives and is not written, by the latest one with which the part that is missing became known, and whether
-- its mask became known
abbrev pub missed_kind : Option ℕ → ℕ → Bool → Kind
missed_kind None level mask = Unsynced mask
missed_kind (Some latest) level mask = Gap level mask

-- the kind of the first copy of a packet
abbrev pub kind_at : History → (ℕ → ℕ) → ℕ → Kind
kind_at h copies t = if is_written h copies t then Written else missed_kind (latest_of_missing h copies t) (level_at h t) (is_mask_known h copies t)

-- ---- what is read of it

abbrev kind_by : Option ℕ → Option ℕ → ℕ → Bool → Bool → Kind
kind_by mask content level masked written = if written then Written else missed_kind (if masked then content else mask) level masked

-- the verdict's kind, and the state after it, by what it tells
record IsReadOf (h : History) (mask content : Option ℕ) (t : ℕ) (bits : List Bool) (masked written : Bool) : Type 0 where
  kind : answer_kind (answer_of h.places (true_state h mask content) t bits) ≡ kind_by mask content (level_at h t) masked written
  state : state_after h.places (true_state h mask content) t bits ≡ true_state h (if masked then Some t else mask) (if written then Some t else content)

abbrev part_at : (ℕ → List Bool) → Option ℕ → Option KnownVector
part_at vectors latest = option_map (λ s. record { number = s; vector = vectors s }) latest

missed-kind : (vectors : ℕ → List Bool) (latest : Option ℕ) (level : ℕ) (mask : Bool) → answer_kind (Ok (missed (part_at vectors latest) level mask)) ≡ missed_kind latest level mask
missed-kind vectors None level mask = refl
missed-kind vectors (Some s) level mask = refl

next_part-is : (vectors : ℕ → List Bool) (latest : Option ℕ) (t : ℕ) (known : Bool) → next_part (part_at vectors latest) t (known_if known (vectors t)) ≡ part_at vectors (if known then Some t else latest)
next_part-is vectors latest t true = refl
next_part-is vectors latest t false = refl

next_state-is : (h : History) (mask content : Option ℕ) (t : ℕ) (masked written : Bool) → next_state (true_state h mask content) t (known_if masked (mask_at h t)) (known_if written (input_at h t))
    ≡ true_state h (if masked then Some t else mask) (if written then Some t else content)
next_state-is h mask content t masked written =
    λ i. record { mask = next_part-is (mask_at h) mask t masked i; content = next_part-is (input_at h) content t written i }

told_either : (whole masked near : Bool) → (whole || masked && near) ≡ true → (masked || whole) ≡ true
told_either true true near is = refl
told_either true false near is = refl
told_either false true near is = refl
told_either false false near is = absurd cc

told_neither : (whole masked near : Bool) → (whole || masked && near) ≡ false → masked ≡ false → (masked || whole) ≡ false
told_neither true masked near is none = absurd cc
told_neither false true near is none = absurd cc
told_neither false false near is none = refl

module _ (h : History) (t : ℕ) (valid : IsValid h) (lt : t < length h.steps) where
  within : (latest : Option ℕ) → IfSome latest (λ s. s < t) → IfSome latest (λ s. s < length h.steps)
  within None before = tt
  within (Some s) before = omega (arith, before, lt)

  module _ (mask content : Option ℕ) (masks : IfSome mask (λ s. s < t)) (contents : IfSome content (λ s. s < t)) where
    known : IsState h.places (true_state h mask content)
    known = true_state-is h mask content valid (within mask masks) (within content contents)

    -- if it is spelled, what it tells becomes known
    spelled_state : (is_mask_told h mask t || (flags_at h t).r) ≡ true
        → state_after h.places (true_state h mask content) t (packet_at h t) ≡ true_state h (if is_mask_told h mask t then Some t else mask) (if is_content_told h mask content t then Some t else content)
    spelled_state some =
        ap (state_read (true_state h mask content) t)
        (spells_read h.places (true_state h mask content) t known (packet_at h t) (form_at h t) (known_if (is_mask_told h mask t) (mask_at h t)) (known_if (is_content_told h mask content t) (input_at h t)) (told-spelled h t valid lt mask content masks contents some))
        ∙ next_state-is h mask content t (is_mask_told h mask t) (is_content_told h mask content t)

    read_by : (masked written : Bool) → is_mask_told h mask t ≡ masked → is_content_told h mask content t ≡ written → IsReadOf h mask content t (packet_at h t) masked written
    read_by masked true m w = record {
      kind = ap answer_kind (answer-written h t valid lt mask content masks contents w);
      state = spelled_state (told_either (flags_at h t).r (is_mask_told h mask t) (reaches content t (level_at h t)) w) ∙ λ i. true_state h (if m i then Some t else mask) (if w i then Some t else content);
    }
    read_by true false m w = record {
      kind = ap answer_kind (answer-mask_alone h t valid lt mask content masks contents w m) ∙ missed-kind (input_at h) content (level_at h t) true;
      state = spelled_state (ap (λ (b : Bool). b || (flags_at h t).r) m) ∙ λ i. true_state h (if m i then Some t else mask) (if w i then Some t else content);
    }
    read_by false false m w =
        let none = told_neither (flags_at h t).r (is_mask_told h mask t) (reaches content t (level_at h t)) w m in
        let read = opaque_read h.places (true_state h mask content) t known (packet_at h t) (level_at h t) (untold-opaque h t valid lt mask content none) in
        record {
          kind = ap answer_kind (answer-neither h t valid lt mask content masks contents w m) ∙ missed-kind (mask_at h) mask (level_at h t) false;
          state = ap (state_read (true_state h mask content) t) read.3;
        }

    -- its bytes are read
    read_data : IsReadOf h mask content t (bits_of (data_at h t)) (is_mask_told h mask t) (is_content_told h mask content t)
    read_data =
        subst (λ (bits : List Bool). IsReadOf h mask content t bits (is_mask_told h mask t) (is_content_told h mask content t)) (sym (bits_of-vector_bytes (form_bits (form_at h t))))
        (read_by (is_mask_told h mask t) (is_content_told h mask content t) refl refl)

-- ---- the latest one that passes a test

module _ (test : Option ℕ → ℕ → Bool) where
  latest-more : (t : ℕ) → latest_by test (t + 1) ≡ (if test (latest_by test t) t then Some t else latest_by test t)
  latest-more t = let next : t + 1 ≡ suc t = omega arith in ap (latest_by test) next ∙ latest_by-suc test t

  before-next : (t : ℕ) (latest : Option ℕ) (passes : Bool) → IfSome latest (λ s. s < t) → IfSome (if passes then Some t else latest) (λ s. s < suc t)
  before-next t latest true before = omega arith
  before-next t None false before = tt
  before-next t (Some s) false before = omega arith

  -- it is one of the first t
  latest-before : (t : ℕ) → IfSome (latest_by test t) (λ s. s < t)
  latest-before zero = subst (λ (latest : Option ℕ). IfSome latest (λ s. s < 0)) (sym (latest_by-zero test)) tt
  latest-before (suc t) =
      subst (λ (latest : Option ℕ). IfSome latest (λ s. s < suc t)) (sym (latest_by-suc test t)) (before-next t (latest_by test t) (test (latest_by test t) t) (latest-before t))

-- ---- among those that arrive

module _ (h : History) (copies : ℕ → ℕ) where
  pub latest_written-more : (t : ℕ) → latest_written h copies (t + 1) ≡ (if is_written h copies t then Some t else latest_written h copies t)
  latest_written-more t = latest-more (is_written_from h copies) t

  pub latest_mask_known-more : (t : ℕ) → latest_mask_known h copies (t + 1) ≡ (if is_mask_known h copies t then Some t else latest_mask_known h copies t)
  latest_mask_known-more t = latest-more (is_mask_known_from h copies) t

  -- of a packet that does not arrive nothing becomes known
  pub is_written-dropped : (t : ℕ) → copies t ≡ 0 → is_written h copies t ≡ false
  is_written-dropped t none = ap (λ (n : ℕ). ltb 0 n && ((flags_at h t).r || is_mask_known h copies t && reaches (latest_written h copies t) t (level_at h t))) none

  pub is_mask_known-dropped : (t : ℕ) → copies t ≡ 0 → is_mask_known h copies t ≡ false
  is_mask_known-dropped t none = ap (λ (n : ℕ). ltb 0 n && is_mask_told h (latest_mask_known h copies t) t) none

  is_mask_known-arrived : (t c : ℕ) → copies t ≡ suc c → is_mask_known h copies t ≡ is_mask_told h (latest_mask_known h copies t) t
  is_mask_known-arrived t c is =
      let some : 0 < copies t = omega (arith, is) in
      ap (λ (b : Bool). b && is_mask_told h (latest_mask_known h copies t) t) (lt-ltb 0 (copies t) some)

  is_written-arrived : (t c : ℕ) → copies t ≡ suc c → is_written h copies t ≡ is_content_told h (latest_mask_known h copies t) (latest_written h copies t) t
  is_written-arrived t c is =
      let some : 0 < copies t = omega (arith, is) in
      ap (λ (b : Bool). b && ((flags_at h t).r || is_mask_known h copies t && reaches (latest_written h copies t) t (level_at h t))) (lt-ltb 0 (copies t) some)
      ∙ ap (λ (b : Bool). (flags_at h t).r || b && reaches (latest_written h copies t) t (level_at h t)) (is_mask_known-arrived t c is)

  -- and what is known stays
  pub latest_written-dropped : (t : ℕ) → copies t ≡ 0 → latest_written h copies (t + 1) ≡ latest_written h copies t
  latest_written-dropped t none = latest_written-more t ∙ ap (λ (b : Bool). if b then Some t else latest_written h copies t) (is_written-dropped t none)

  pub latest_mask_known-dropped : (t : ℕ) → copies t ≡ 0 → latest_mask_known h copies (t + 1) ≡ latest_mask_known h copies t
  latest_mask_known-dropped t none = latest_mask_known-more t ∙ ap (λ (b : Bool). if b then Some t else latest_mask_known h copies t) (is_mask_known-dropped t none)

  module _ (t c : ℕ) (valid : IsValid h) (lt : t < length h.steps) (arrived : copies t ≡ suc c) where
    read_arrived : IsReadOf h (latest_mask_known h copies t) (latest_written h copies t) t (bits_of (data_at h t)) (is_mask_told h (latest_mask_known h copies t) t) (is_content_told h (latest_mask_known h copies t) (latest_written h copies t) t)
    read_arrived = read_data h t valid lt (latest_mask_known h copies t) (latest_written h copies t) (latest-before (is_mask_known_from h copies) t) (latest-before (is_written_from h copies) t)

    -- the verdict's kind is that of the packet
    pub kind_read : answer_kind (answer_of h.places (true_state h (latest_mask_known h copies t) (latest_written h copies t)) t (bits_of (data_at h t))) ≡ kind_at h copies t
    kind_read =
        let masked = sym (is_mask_known-arrived t c arrived) in
        let written = sym (is_written-arrived t c arrived) in
        read_arrived.kind ∙ λ i. kind_by (latest_mask_known h copies t) (latest_written h copies t) (level_at h t) (masked i) (written i)

    -- and the state is that of the latest known ones so far
    pub state_next : state_after h.places (true_state h (latest_mask_known h copies t) (latest_written h copies t)) t (bits_of (data_at h t)) ≡ true_state h (latest_mask_known h copies (t + 1)) (latest_written h copies (t + 1))
    state_next =
        let masked = ap (λ (b : Bool). if b then Some t else latest_mask_known h copies t) (sym (is_mask_known-arrived t c arrived)) ∙ sym (latest_mask_known-more t) in
        let written = ap (λ (b : Bool). if b then Some t else latest_written h copies t) (sym (is_written-arrived t c arrived)) ∙ sym (latest_written-more t) in
        read_arrived.state ∙ λ i. true_state h (masked i) (written i)
