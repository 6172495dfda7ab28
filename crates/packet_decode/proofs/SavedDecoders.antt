-- The bytes of a decoder in a saved state.
use Rattle.std.proofs.Common.{◌≡◌, ℕ, zero, suc, ◌+◌, ◌<◌, ◌≤◌, ◌^◌, Bool, true, false, List, [], ◌∷◌, ◌++◌, ◌==◌, length, get_or, drop, replicate, Option, None, Some, refl, sym, ap, ◌∙◌, arith}
use Rattle.std.specs.Prelude.{IfNone, nat_lt}
use Rattle.std.proofs.lemmas.List.{append-nil, length-append, length-replicate}
use Rattle.std.proofs.lemmas.Grind.{common_steps}
use Rattle.bit_vectors.specs.Vectors.{IsPlaces}
use Rattle.state_bytes.specs.Parts.{BeginsVector, BeginsVectorIf, number_bytes, vector_part}
use Rattle.state_bytes.proofs.Parts.{length-number_bytes, number_agrees, vector_agrees}
use Rattle.packet_decode.specs.State.{HasVector, KnownVector, Decoding, known_number, known_vector, latest_content, latest_mask, latest_mask_number, latest_number}
use Rattle.packet_decode.specs.Parts.{part_by}
use Rattle.packet_decode.specs.Saved.{AreOfDecoding, AreThree, IsDecoding, decoding_bytes, number_and_one, numbers_before, three_parts}

-- ---- three vectors

pub three_made : (f : ℕ) (first others : Bool) (bytes r s t : List ℕ) → (v : List Bool) × BeginsVectorIf first f v bytes r → (v : List Bool) × BeginsVectorIf others f v r s → (v : List Bool) × BeginsVectorIf others f v s t → t ≡ [] → AreThree f first others bytes
three_made f first others bytes r s t a b c end =
    let last : s ≡ vector_part c.0 = c.1.begins.bytes_are ∙ ap (λ (xs : List ℕ). vector_part c.0 ++ xs) end ∙ append-nil (vector_part c.0) in
    record {
      mask = a.0;
      content = b.0;
      recent = c.0;
      bytes_are = a.1.begins.bytes_are ∙ ap (λ (xs : List ℕ). vector_part a.0 ++ xs) (b.1.begins.bytes_are ∙ ap (λ (xs : List ℕ). vector_part b.0 ++ xs) last);
      mask_places = a.1.begins.places;
      content_places = b.1.begins.places;
      recent_places = c.1.begins.places;
      mask_zero = a.1.zero;
      content_zero = b.1.zero;
      recent_zero = c.1.zero;
    }

pub first_of : (f : ℕ) (first others : Bool) (bytes : List ℕ) → (three : AreThree f first others bytes) → BeginsVectorIf first f three.mask bytes (vector_part three.content ++ vector_part three.recent)
first_of f first others bytes three = record { begins = record { places = three.mask_places; bytes_are = three.bytes_are }; zero = three.mask_zero }

pub second_of : (f : ℕ) (first others : Bool) (bytes r : List ℕ) → (three : AreThree f first others bytes) → r ≡ vector_part three.content ++ vector_part three.recent → BeginsVectorIf others f three.content r (vector_part three.recent)
second_of f first others bytes r three e = record { begins = record { places = three.content_places; bytes_are = e }; zero = three.content_zero }

pub third_of : (f : ℕ) (first others : Bool) (bytes r : List ℕ) → (three : AreThree f first others bytes) → r ≡ vector_part three.recent → BeginsVectorIf others f three.recent r []
third_of f first others bytes r three e = record { begins = record { places = three.recent_places; bytes_are = e ∙ sym (append-nil (vector_part three.recent)) }; zero = three.recent_zero }

-- ---- what is known, by a number that is one more

pub number_of : ℕ → Option ℕ
number_of zero = None
number_of (suc n) = Some n

number_is : (m : ℕ) (v : List Bool) → number_and_one (known_number (part_by (number_of m) v)) ≡ m
unfolding number_of
number_is zero v = refl
number_is (suc m) v = omega arith

vector_is : (m f : ℕ) (v : List Bool) → (m ≡ 0 → v ≡ replicate f false) → known_vector f (part_by (number_of m) v) ≡ v
unfolding number_of
vector_is zero f v none = sym (none refl)
vector_is (suc m) f v none = refl

has_vector : (m f : ℕ) (v : List Bool) → length v ≡ f → HasVector f (part_by (number_of m) v)
unfolding number_of
has_vector zero f v len = tt
has_vector (suc m) f v len = len

if_first : (n : ℕ) (v : List Bool) (P : Type 0) → (n ≡ 0 → P) → IfNone (part_by (number_of n) v) P
unfolding number_of
if_first zero v P first = first refl
if_first (suc n) v P first = tt

none_lt : (m : ℕ) → m ≡ 0 → nat_lt 0 m ≡ false
none_lt m e = ap (λ n. nat_lt 0 n) e

from_lt : (m : ℕ) → nat_lt 0 m ≡ false → m ≡ 0
from_lt m e = grind (arith, common_steps)

from_eq : (n : ℕ) → (n == 0) ≡ true → n ≡ 0
from_eq n e = grind (arith, common_steps)

no_bytes : (xs : List ℕ) → length xs ≡ 0 → xs ≡ []
no_bytes [] e = refl
no_bytes (x ∷ xs) e = absurd (omega (arith, e))

pub are_none : (xs : List ℕ) → (length xs == 0) ≡ true → xs ≡ []
are_none xs e = no_bytes xs (from_eq (length xs) e)

pub decoding_made : (f before m n level : ℕ) (rest bytes : List ℕ) → IsPlaces f → m < 2 ^ 64 → n < 2 ^ 64 → m ≤ before → n ≤ before → level < 16 → (n ≡ 0 → level ≡ 0) → AreThree f (nat_lt 0 m) (nat_lt 0 n) rest
    → bytes ≡ numbers_before m n level rest → AreOfDecoding f before bytes
decoding_made f before m n level rest bytes vector m_fits n_fits m_le n_le level_lt first three is =
    let mask_number = number_is m three.mask in
    let content_number = number_is n three.content in
    let mask = vector_is m f three.mask (λ e. three.mask_zero (none_lt m e)) in
    let content = vector_is n f three.content (λ e. three.content_zero (none_lt n e)) in
    record {
      decoding = record { places = f; state = record { mask = part_by (number_of m) three.mask; content = part_by (number_of n) three.content }; recent = three.recent; level = level };
      valid = record {
        vector = vector;
        places = refl;
        state = record { mask = has_vector m f three.mask three.mask_places; content = has_vector n f three.content three.content_places };
        recent_places = three.recent_places;
        level_most = level_lt;
        mask_number = rw mask_number m_fits;
        content_number = rw content_number n_fits;
        first_recent = if_first n three.content (three.recent ≡ replicate f false) (λ e. three.recent_zero (none_lt n e));
        first_level = if_first n three.content (level ≡ 0) first;
      };
      mask = rw mask_number m_le;
      content = rw content_number n_le;
      bytes_are = is ∙ ap (λ (xs : List ℕ). numbers_before m n level xs) three.bytes_are ∙ sym (λ i. numbers_before (mask_number i) (content_number i) level (three_parts (mask i) (content i) three.recent));
    }

-- ---- the other way

zero_known : (f : ℕ) (part : Option KnownVector) → number_and_one (known_number part) ≡ 0 → known_vector f part ≡ replicate f false
zero_known f None e = refl
zero_known f (Some known) e = absurd (omega (arith, e))

pub known_places : (f : ℕ) (part : Option KnownVector) → HasVector f part → length (known_vector f part) ≡ f
known_places f None has = length-replicate f false
known_places f (Some known) has = has

if_none : (P : Type 0) (part : Option KnownVector) → IfNone part P → number_and_one (known_number part) ≡ 0 → P
if_none P None first e = first
if_none P (Some known) first e = absurd (omega (arith, e))

pub three_of : (f m n : ℕ) (d : Decoding) (rest : List ℕ) → IsDecoding f d → m ≡ number_and_one (latest_mask_number d.state) → n ≡ number_and_one (latest_number d.state) → rest ≡ three_parts (latest_mask d.places d.state) (latest_content d.places d.state) d.recent
    → AreThree f (nat_lt 0 m) (nat_lt 0 n) rest
three_of f m n d rest valid m_is n_is is =
    record {
      mask = known_vector d.places d.state.mask;
      content = known_vector d.places d.state.content;
      recent = d.recent;
      bytes_are = is;
      mask_places = ap (λ p. length (known_vector p d.state.mask)) valid.places ∙ known_places f d.state.mask valid.state.mask;
      content_places = ap (λ p. length (known_vector p d.state.content)) valid.places ∙ known_places f d.state.content valid.state.content;
      recent_places = valid.recent_places;
      mask_zero = λ e. ap (λ p. known_vector p d.state.mask) valid.places ∙ zero_known f d.state.mask (sym m_is ∙ from_lt m e);
      content_zero = λ e. ap (λ p. known_vector p d.state.content) valid.places ∙ zero_known f d.state.content (sym n_is ∙ from_lt n e);
      recent_zero = λ e. if_none (d.recent ≡ replicate f false) d.state.content valid.first_recent (sym n_is ∙ from_lt n e);
    }

-- ---- what a decoder keeps

pub kept_number : (n : Option ℕ) (v : List Bool) → known_number (part_by n v) ≡ n
kept_number None v = refl
kept_number (Some n) v = refl

pub kept_vector : (f : ℕ) (n : Option ℕ) (v : List Bool) → IfNone n (v ≡ replicate f false) → known_vector f (part_by n v) ≡ v
kept_vector f None v none = sym none
kept_vector f (Some n) v none = refl

-- a part is the vector and its number
pub part_is : (f m : ℕ) (number : Option ℕ) (part : Option KnownVector) (v : List Bool) → number_and_one number ≡ m → m ≡ number_and_one (known_number part) → v ≡ known_vector f part → part_by number v ≡ part
part_is f m None None v n_is m_is is = refl
part_is f m None (Some known) v n_is m_is is = absurd (omega (arith, n_is, m_is))
part_is f m (Some n) None v n_is m_is is = absurd (omega (arith, n_is, m_is))
part_is f m (Some n) (Some known) v n_is m_is is = let e : n ≡ known.number = omega (arith, n_is, m_is) in λ i. Some (record { number = e i; vector = is i })

pub if_kept : (n : Option ℕ) (m : ℕ) (part : Option KnownVector) (P : Type 0) → number_and_one n ≡ m → m ≡ number_and_one (known_number part) → IfNone part P → IfNone n P
if_kept None m part P n_is m_is first = if_none P part first (sym m_is ∙ sym n_is)
if_kept (Some n) m part P n_is m_is first = tt

pub zero_if_none : (f : ℕ) (n : Option ℕ) (m : ℕ) (part : Option KnownVector) (v : List Bool) → number_and_one n ≡ m → m ≡ number_and_one (known_number part) → v ≡ known_vector f part → IfNone n (v ≡ replicate f false)
zero_if_none f None m part v n_is m_is is = is ∙ zero_known f part (sym m_is ∙ sym n_is)
zero_if_none f (Some n) m part v n_is m_is is = tt

pub has_part : (f : ℕ) (n : Option ℕ) (v : List Bool) → length v ≡ f → HasVector f (part_by n v)
has_part f None v len = tt
has_part f (Some n) v len = len

pub if_part : (n : Option ℕ) (v : List Bool) (P : Type 0) → IfNone n P → IfNone (part_by n v) P
if_part None v P first = first
if_part (Some n) v P first = tt

-- ---- what is loaded

pub mask_begins : (f g : ℕ) (d : Decoding) (rest : List ℕ) → IsDecoding f d → f ≡ g → rest ≡ three_parts (latest_mask d.places d.state) (latest_content d.places d.state) d.recent
    → BeginsVector g (latest_mask d.places d.state) rest (vector_part (latest_content d.places d.state) ++ vector_part d.recent)
mask_begins f g d rest valid same is = record { places = ap (λ p. length (known_vector p d.state.mask)) valid.places ∙ known_places f d.state.mask valid.state.mask ∙ same; bytes_are = is }

pub content_begins : (f g : ℕ) (d : Decoding) (rest : List ℕ) → IsDecoding f d → f ≡ g → rest ≡ vector_part (latest_content d.places d.state) ++ vector_part d.recent
    → BeginsVector g (latest_content d.places d.state) rest (vector_part d.recent)
content_begins f g d rest valid same is = record { places = ap (λ p. length (known_vector p d.state.content)) valid.places ∙ known_places f d.state.content valid.state.content ∙ same; bytes_are = is }

pub recent_begins : (f g : ℕ) (d : Decoding) (rest : List ℕ) → IsDecoding f d → f ≡ g → rest ≡ vector_part d.recent → BeginsVector g d.recent rest []
recent_begins f g d rest valid same is = record { places = valid.recent_places ∙ same; bytes_are = is ∙ sym (append-nil (vector_part d.recent)) }

pub numbers_size : (m n level : ℕ) (rest bytes : List ℕ) → bytes ≡ numbers_before m n level rest → 17 ≤ length bytes
numbers_size m n level rest bytes is =
    omega (arith, ap (λ (xs : List ℕ). length xs) is, length-append (number_bytes m) (number_bytes n ++ (level ∷ rest)), length-append (number_bytes n) (level ∷ rest), length-number_bytes m, length-number_bytes n)

pub if_map : (part : Option KnownVector) (P Q : Type 0) → IfNone part P → (P → Q) → IfNone part Q
if_map None P Q has then = then has
if_map (Some known) P Q has then = tt

-- ---- what has the same bytes

numbers_agree : (m n level o p other : ℕ) (rest left : List ℕ) → m < 2 ^ 64 → n < 2 ^ 64 → o < 2 ^ 64 → p < 2 ^ 64 → numbers_before m n level rest ≡ numbers_before o p other left → (m ≡ o) × (n ≡ p) × (level ≡ other) × (rest ≡ left)
numbers_agree m n level o p other rest left m_fits n_fits o_fits p_fits e =
    let first = number_agrees m o (number_bytes n ++ (level ∷ rest)) (number_bytes p ++ (other ∷ left)) m_fits o_fits e in
    let second = number_agrees n p (level ∷ rest) (other ∷ left) n_fits p_fits first.1 in
    (first.0, second.0, ap (λ (xs : List ℕ). get_or xs 0 0) second.1, ap (λ (xs : List ℕ). drop 1 xs) second.1)

-- a known vector is its number and its vector
part_agrees : (f : ℕ) (a b : Option KnownVector) → number_and_one (known_number a) ≡ number_and_one (known_number b) → known_vector f a ≡ known_vector f b → a ≡ b
part_agrees f None None number vector = refl
part_agrees f None (Some b) number vector = absurd (omega (arith, number))
part_agrees f (Some a) None number vector = absurd (omega (arith, number))
part_agrees f (Some a) (Some b) number vector = let e : a.number ≡ b.number = omega (arith, number) in λ i. Some (record { number = e i; vector = vector i })

pub decodings_agree : (f : ℕ) (a b : Decoding) → IsDecoding f a → IsDecoding f b → decoding_bytes a ≡ decoding_bytes b → a ≡ b
decodings_agree f a b first second e =
    let told = numbers_agree _ _ _ _ _ _ _ _ first.mask_number first.content_number second.mask_number second.content_number e in
    let masks = vector_agrees f _ _ _ _ _ (mask_begins f f a _ first refl refl) (mask_begins f f b _ second refl told.3) in
    let contents = vector_agrees f _ _ _ _ _ (content_begins f f a _ first refl refl) (content_begins f f b _ second refl masks.1) in
    let recents = vector_agrees f _ _ _ _ _ (recent_begins f f a _ first refl refl) (recent_begins f f b _ second refl contents.1) in
    let places : a.places ≡ b.places = first.places ∙ sym second.places in
    let mask = part_agrees f a.state.mask b.state.mask told.0 (ap (λ p. known_vector p a.state.mask) (sym first.places) ∙ masks.0 ∙ ap (λ p. known_vector p b.state.mask) second.places) in
    let content = part_agrees f a.state.content b.state.content told.1 (ap (λ p. known_vector p a.state.content) (sym first.places) ∙ contents.0 ∙ ap (λ p. known_vector p b.state.content) second.places) in
    let recent = recents.0 in
    let level = told.2 in
    λ i. record { places = places i; state = record { mask = mask i; content = content i }; recent = recent i; level = level i }
