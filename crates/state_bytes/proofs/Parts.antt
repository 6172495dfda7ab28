-- States: their frames, and their parts one after the other.
use borrow.Rule.Slice.PartMut.{put_mid}
use Rattle.std.specs.Int.{from_be_bytes, to_be_bytes}
use Rattle.std.specs.Prelude.{Contains, ◌⊎◌}
use Rattle.std.proofs.Common.{◌≡◌, ℕ, zero, suc, ◌+◌, ◌-◌, ◌*◌, ◌<◌, ◌≤◌, Bool, true, false, cond, List, [], ◌∷◌, ◌++◌, length, get_or, take, drop, replicate, refl, sym, ap, subst, ◌∙◌, append_assoc, arith, inl, inr, w64, ◌^◌, ◌≢◌, w32}
use Rattle.std.proofs.Math.Seq.{drop-append-add}
use Rattle.std.proofs.lemmas.Bool.{false≢true, cases_eq}
use Rattle.std.proofs.lemmas.List.{length-append, length-take-le, length-drop, take_at, drop_at, drop-drop, replicate-append-replicate, length-replicate, get_or_past, drop_more}
use Rattle.std.proofs.lemmas.Nat.{from_be_bytes-to_be_bytes_8, be_bytes_4, from_be_bytes-to_be_bytes_4}
use Rattle.bit_vectors.specs.Vectors.{AreBytes, bits_of, byte_count, number_bits, padded, vector_bytes}
use Rattle.bit_vectors.proofs.NumberBits.{length-bits_of, length-vector_bytes, stored_is, bits_of-vector_bytes, take-bits_of-vector_bytes, get_or-padded, none_from, vector_bytes_is}
use Rattle.state_bytes.specs.Crc.{crc32}
use Rattle.state_bytes.specs.Frames.{IsFrame, frame, head, sealed}
use Rattle.state_bytes.specs.Parts.{BeginsVector, BeginsVectorIf, Puts, has_one, number_bytes, vector_part}

-- ---- what is written

pub Puts-part : (old ys : List ℕ) (at end : ℕ) → at ≤ end → end ≤ length old → length ys ≡ end - at → Puts old (put_mid at (end - at) old ys) at ys end
Puts-part old ys at end order most len =
    let is : put_mid at (end - at) old ys ≡ take at old ++ ys ++ drop end old =
    let e : at + (end - at) ≡ end = omega arith in
    ap (λ (zs : List ℕ). take at old ++ (ys ++ zs)) (drop-drop (end - at) at old ∙ ap (λ n. drop n old) e) ∙ sym (append_assoc (take at old) ys (drop end old)) in
    record {
      end_is = omega arith;
      is = is;
      len = ap (λ (zs : List ℕ). length zs) is ∙ omega (arith, length-append (take at old ++ ys) (drop end old), length-append (take at old) ys, length-take-le at old (omega arith), length-drop end old);
    }

pub Puts-then : (old mid new xs ys : List ℕ) (a b c : ℕ) → Puts old mid a xs b → Puts mid new b ys c → c ≤ length old → Puts old new a (xs ++ ys) c
Puts-then old mid new xs ys a b c first second most =
    let front : List ℕ = take a old ++ xs in
    let le : a ≤ length old = omega (arith, first.end_is, second.end_is) in
    let front_len : length (take a old ++ xs) ≡ b = omega (arith, length-append (take a old) xs, length-take-le a old le, first.end_is) in
    let taken : take b mid ≡ take a old ++ xs = ap (λ (zs : List ℕ). take b zs) first.is ∙ take_at (take a old ++ xs) (drop b old) b front_len in
    let place : c ≡ length (take a old ++ xs) + length ys = omega (arith, second.end_is, front_len) in
    let rest : b + length ys ≡ c = sym second.end_is in
    let left : drop c mid ≡ drop c old =
    ap (λ (zs : List ℕ). drop c zs) first.is ∙ ap (λ n. drop n (take a old ++ xs ++ drop b old)) place ∙ drop-append-add (take a old ++ xs) (drop b old) (length ys) ∙ drop-drop (length ys) b old ∙ ap (λ n. drop n old) rest in
    record {
      end_is = omega (arith, first.end_is, second.end_is, length-append xs ys);
      is = second.is ∙ ap (λ (zs : List ℕ). zs ++ ys ++ drop c mid) taken ∙ ap (λ (zs : List ℕ). take a old ++ xs ++ ys ++ zs) left ∙ ap (λ (zs : List ℕ). zs ++ drop c old) (append_assoc (take a old) xs ys);
      len = second.len ∙ first.len;
    }

-- ---- vectors

pub no_one : (v : List Bool) → has_one v ≡ false → v ≡ replicate (length v) false
no_one [] e = refl
no_one (true ∷ v) e = absurd cc
no_one (false ∷ v) e = ap (λ (bits : List Bool). false ∷ bits) (no_one v e)

pub has_one-zeros : (n : ℕ) → has_one (replicate n false) ≡ false
has_one-zeros zero = refl
has_one-zeros (suc n) = has_one-zeros n

part_if : (b : Bool) (v : List Bool) → has_one v ≡ b → vector_part v ≡ cond b (1 ∷ vector_bytes v) (0 ∷ [])
unfolding vector_part
part_if b v e = ap (λ b. cond b (1 ∷ vector_bytes v) (0 ∷ [])) e

pub vector_part-zero : (v : List Bool) → v ≡ replicate (length v) false → vector_part v ≡ 0 ∷ []
vector_part-zero v e = part_if false v (ap has_one e ∙ has_one-zeros (length v))

pub vector_part-one : (v : List Bool) → has_one v ≡ true → vector_part v ≡ 1 ∷ vector_bytes v
vector_part-one v e = part_if true v e

-- what the bytes are
pub record AtZero (f : ℕ) (v : List Bool) (bytes rest : List ℕ) : Type 0 where
  pub bytes_are : bytes ≡ 0 ∷ rest
  pub zero : v ≡ replicate f false

pub record AtOne (v : List Bool) (bytes rest : List ℕ) : Type 0 where
  pub bytes_are : bytes ≡ 1 ∷ (vector_bytes v ++ rest)
  pub one : has_one v ≡ true

at_either : (b : Bool) (f : ℕ) (v : List Bool) (bytes rest : List ℕ) → has_one v ≡ b → BeginsVector f v bytes rest → AtZero f v bytes rest ⊎ AtOne v bytes rest
at_either false f v bytes rest e begins = inl (record { bytes_are = begins.bytes_are ∙ ap (λ (zs : List ℕ). zs ++ rest) (part_if false v e); zero = no_one v e ∙ ap (λ n. replicate n false) begins.places })
at_either true f v bytes rest e begins = inr (record { bytes_are = begins.bytes_are ∙ ap (λ (zs : List ℕ). zs ++ rest) (part_if true v e); one = e })

pub either : (f : ℕ) (v : List Bool) (bytes rest : List ℕ) → BeginsVector f v bytes rest → AtZero f v bytes rest ⊎ AtOne v bytes rest
either f v bytes rest begins = at_either (has_one v) f v bytes rest refl begins

pub no_spare : (v : List Bool) → Contains (drop (length v) (bits_of (vector_bytes v))) true → ⊥
no_spare v spare =
    let padded_bits = bits_of-vector_bytes v in
    none_from (padded v) (length v) (λ k from to. get_or-padded v k ∙ get_or_past v k false from) (subst (λ (bits : List Bool). Contains (drop (length v) bits) true) padded_bits spare)

eight_zeros : (n : ℕ) → number_bits 8 0 ++ replicate (8 * n) false ≡ replicate (8 + 8 * n) false
unfolding number_bits
eight_zeros n = replicate-append-replicate 8 (8 * n) false

take_zeros : (n m : ℕ) → n ≤ m → take n (replicate m false) ≡ replicate n false
take_zeros zero m le = refl
take_zeros (suc n) zero le = absurd (omega arith)
take_zeros (suc n) (suc m) le = ap (λ (bits : List Bool). false ∷ bits) (take_zeros n m (omega arith))

pub zero_bits : (n : ℕ) → bits_of (replicate n 0) ≡ replicate (8 * n) false
zero_bits zero = refl
zero_bits (suc n) =
    let e : 8 + 8 * n ≡ 8 * suc n = omega arith in
    ap (λ (bits : List Bool). number_bits 8 0 ++ bits) (zero_bits n) ∙ eight_zeros n ∙ ap (λ m. replicate m false) e

padded_zeros : (f : ℕ) → padded (replicate f false) ≡ replicate (8 * byte_count f) false
padded_zeros f =
    let len = length-replicate f false in
    let e : f + (8 * byte_count f - f) ≡ 8 * byte_count f = omega arith in
    ap (λ (n : ℕ). replicate f false ++ replicate (8 * byte_count n - n) false) len ∙ replicate-append-replicate f (8 * byte_count f - f) false ∙ ap (λ m. replicate m false) e

are_bytes : (n : ℕ) → AreBytes (replicate n 0)
are_bytes zero i = omega arith
are_bytes (suc n) zero = omega arith
are_bytes (suc n) (suc i) = are_bytes n i

-- the bytes of zeros
pub zero_vector : (f : ℕ) → vector_bytes (replicate f false) ≡ replicate (byte_count f) 0
zero_vector f = sym (vector_bytes_is (replicate (byte_count f) 0) (replicate f false) (are_bytes (byte_count f)) (zero_bits (byte_count f) ∙ sym (padded_zeros f)))

-- a vector whose bytes are zeros
pub vector_of_zeros : (v : List Bool) → vector_bytes v ≡ replicate (length (vector_bytes v)) 0 → v ≡ replicate (length v) false
vector_of_zeros v e =
    let n = length (vector_bytes v) in
    let within : length v ≤ 8 * length (vector_bytes v) = omega (arith, length-vector_bytes v) in
    sym (take-bits_of-vector_bytes v) ∙ ap (λ (bytes : List ℕ). take (length v) (bits_of bytes)) e ∙ ap (λ (bits : List Bool). take (length v) bits) (zero_bits (length (vector_bytes v))) ∙ take_zeros (length v) (8 * length (vector_bytes v)) within

-- ---- what is read

pub has_one_or : (b : Bool) (v : List Bool) → has_one v ≡ b → (v ≡ replicate (length v) false → ⊥) → has_one v ≡ true
has_one_or true v e none = e
has_one_or false v e none = absurd (none (no_one v e))

pub starts : (f : ℕ) (v : List Bool) (bytes rest : List ℕ) → BeginsVector f v bytes rest → 1 ≤ length bytes
starts f v bytes rest begins =
    elim (either f v bytes rest begins) [
      | inl none ↦ subst (λ (xs : List ℕ). 1 ≤ length xs) (sym none.bytes_are) (omega arith)
      | inr one ↦ subst (λ (xs : List ℕ). 1 ≤ length xs) (sym one.bytes_are) (omega arith)
    ]

pub zero_begins : (may : Bool) (f : ℕ) (bytes rest : List ℕ) → bytes ≡ 0 ∷ rest → BeginsVectorIf may f (replicate f false) bytes rest
zero_begins may f bytes rest e =
    let len = length-replicate f false in
    record {
      begins = record {
        places = len;
        bytes_are = e ∙ ap (λ (xs : List ℕ). xs ++ rest) (sym (vector_part-zero (replicate f false) (ap (λ n. replicate n false) (sym len))));
      };
      zero = λ _. refl;
    }

-- the vector that the bytes after a 1 spell
pub one_begins : (f : ℕ) (bytes front rest : List ℕ) → 1 ≤ f → bytes ≡ 1 ∷ (front ++ rest) → AreBytes front → length front ≡ byte_count f → (Contains (drop f (bits_of front)) true → ⊥) → (front ≡ replicate (length front) 0 → ⊥) → BeginsVectorIf true f (take f (bits_of front)) bytes rest
one_begins f bytes front rest some e are len spare no_zero =
    let v : List Bool = take f (bits_of front) in
    let stored : front ≡ vector_bytes (take f (bits_of front)) = stored_is front f are len spare in
    let places : length (take f (bits_of front)) ≡ f = length-take-le f (bits_of front) (omega (arith, length-bits_of front)) in
    let zeros : vector_bytes (replicate f false) ≡ replicate (length front) 0 = zero_vector f ∙ ap (λ n. replicate n 0) (sym len) in
    record {
      begins = record {
        places = places;
        bytes_are = e ∙ ap (λ (xs : List ℕ). 1 ∷ (xs ++ rest)) stored ∙ ap (λ (xs : List ℕ). xs ++ rest) (sym (vector_part-one (take f (bits_of front)) (has_one_or (has_one (take f (bits_of front))) (take f (bits_of front)) refl
            (λ none. no_zero (stored ∙ ap vector_bytes (none ∙ ap (λ n. replicate n false) places) ∙ zeros)))));
      };
      zero = λ never. absurd cc;
    }

-- what does not begin with a 0 begins with a 1 and the bytes of a vector
pub record IsSet (may : Bool) (f : ℕ) (v : List Bool) (first : ℕ) (tail rest : List ℕ) : Type 0 where
  pub first_is : first ≡ 1
  pub tail_is : tail ≡ vector_bytes v ++ rest
  pub one : has_one v ≡ true
  pub allowed : may ≡ true
  pub places : length v ≡ f

may_be : (may : Bool) (f : ℕ) (v : List Bool) → (may ≡ false → v ≡ replicate f false) → has_one v ≡ true → may ≡ true
may_be true f v none one = refl
may_be false f v none one = absurd (false≢true (sym (has_one-zeros f) ∙ ap has_one (sym (none refl)) ∙ one))

pub is_set : (may : Bool) (f : ℕ) (v : List Bool) (bytes rest tail : List ℕ) (first : ℕ) → BeginsVectorIf may f v bytes rest → bytes ≡ first ∷ tail → (first ≡ 0 → ⊥) → IsSet may f v first tail rest
is_set may f v bytes rest tail first begins e some =
    elim (either f v bytes rest begins.begins) [
      | inl none ↦ absurd (some (ap (λ (xs : List ℕ). get_or xs 0 0) (sym e ∙ none.bytes_are)))
      | inr set ↦ record {
        first_is = ap (λ (xs : List ℕ). get_or xs 0 0) (sym e ∙ set.bytes_are);
        tail_is = ap (λ (xs : List ℕ). drop 1 xs) (sym e ∙ set.bytes_are);
        one = set.one;
        allowed = may_be may f v begins.zero set.one;
        places = begins.begins.places;
      }
    ]

pub is_unset : (f : ℕ) (v : List Bool) (bytes rest tail : List ℕ) (first : ℕ) → BeginsVector f v bytes rest → bytes ≡ first ∷ tail → first ≡ 0 → (v ≡ replicate f false) × (tail ≡ rest)
is_unset f v bytes rest tail first begins e first_zero =
    elim (either f v bytes rest begins) [
      | inl none ↦ (none.zero, ap (λ (xs : List ℕ). drop 1 xs) (sym e ∙ none.bytes_are))
      | inr set ↦ let one : 0 ≡ 1 = sym first_zero ∙ ap (λ (xs : List ℕ). get_or xs 0 0) (sym e ∙ set.bytes_are) in absurd (omega (arith, one))
    ]

-- the bytes of the vector, and what follows
pub set_size : (f : ℕ) (v : List Bool) (tail rest : List ℕ) → length v ≡ f → tail ≡ vector_bytes v ++ rest → byte_count f ≤ length tail
set_size f v tail rest places e = let n = length-vector_bytes v in omega (arith, ap (λ (xs : List ℕ). length xs) e, length-append (vector_bytes v) rest, ap byte_count places)

pub set_front : (f : ℕ) (v : List Bool) (tail rest : List ℕ) → length v ≡ f → tail ≡ vector_bytes v ++ rest → take (byte_count f) tail ≡ vector_bytes v
set_front f v tail rest places e = ap (λ (xs : List ℕ). take (byte_count f) xs) e ∙ take_at (vector_bytes v) rest (byte_count f) (length-vector_bytes v ∙ ap byte_count places)

pub set_back : (f : ℕ) (v : List Bool) (tail rest : List ℕ) → length v ≡ f → tail ≡ vector_bytes v ++ rest → drop (byte_count f) tail ≡ rest
set_back f v tail rest places e = ap (λ (xs : List ℕ). drop (byte_count f) xs) e ∙ drop_at (vector_bytes v) rest (byte_count f) (length-vector_bytes v ∙ ap byte_count places)

-- bytes of which a part is taken
pub bytes_take : (n : ℕ) (bytes : List ℕ) → ((i : ℕ) → get_or bytes i 0 < 256) → (i : ℕ) → get_or (take n bytes) i 0 < 256
bytes_take zero bytes are i = omega arith
bytes_take (suc n) [] are i = omega arith
bytes_take (suc n) (b ∷ bytes) are zero = are 0
bytes_take (suc n) (b ∷ bytes) are (suc i) = bytes_take n bytes (λ k. are (suc k)) i

pub bytes_drop : (n : ℕ) (bytes : List ℕ) → ((i : ℕ) → get_or bytes i 0 < 256) → (i : ℕ) → get_or (drop n bytes) i 0 < 256
bytes_drop zero bytes are i = are i
bytes_drop (suc n) [] are i = omega arith
bytes_drop (suc n) (b ∷ bytes) are i = bytes_drop n bytes (λ k. are (suc k)) i

-- ---- sizes

size_if : (b : Bool) (v : List Bool) → has_one v ≡ b → length (vector_part v) ≤ byte_count (length v) + 1
size_if false v e = omega (arith, ap (λ (xs : List ℕ). length xs) (part_if false v e))
size_if true v e = omega (arith, ap (λ (xs : List ℕ). length xs) (part_if true v e), length-vector_bytes v)

pub vector_part_size : (v : List Bool) → length (vector_part v) ≤ byte_count (length v) + 1
vector_part_size v = size_if (has_one v) v refl

pub length-number_bytes : (n : ℕ) → length (number_bytes n) ≡ 8
unfolding number_bytes
length-number_bytes n = refl

-- ---- parts that agree

pub number_agrees : (m n : ℕ) (rest other : List ℕ) → m < 2 ^ 64 → n < 2 ^ 64 → number_bytes m ++ rest ≡ number_bytes n ++ other → (m ≡ n) × (rest ≡ other)
unfolding number_bytes
number_agrees m n rest other m_fits n_fits e =
    let same : to_be_bytes w64 m ≡ to_be_bytes w64 n = ap (λ (xs : List ℕ). take 8 xs) e in
    (sym (from_be_bytes-to_be_bytes_8 m m_fits) ∙ ap (λ (xs : List ℕ). from_be_bytes w64 xs) same ∙ from_be_bytes-to_be_bytes_8 n n_fits, ap (λ (xs : List ℕ). drop 8 xs) e)

vector_bytes_agree : (v w : List Bool) (rest other : List ℕ) → length v ≡ length w → vector_bytes v ++ rest ≡ vector_bytes w ++ other → (v ≡ w) × (rest ≡ other)
vector_bytes_agree v w rest other places e =
    let size : length (vector_bytes w) ≡ length (vector_bytes v) = length-vector_bytes w ∙ ap byte_count (sym places) ∙ sym (length-vector_bytes v) in
    let n = length (vector_bytes v) in
    let bytes : vector_bytes v ≡ vector_bytes w =
    sym (take_at (vector_bytes v) rest (length (vector_bytes v)) refl) ∙ ap (λ (xs : List ℕ). take (length (vector_bytes v)) xs) e ∙ take_at (vector_bytes w) other (length (vector_bytes v)) size in (
      sym (take-bits_of-vector_bytes v) ∙ (λ i. take (places i) (bits_of (bytes i))) ∙ take-bits_of-vector_bytes w,
      sym (drop_at (vector_bytes v) rest (length (vector_bytes v)) refl) ∙ ap (λ (xs : List ℕ). drop (length (vector_bytes v)) xs) e ∙ drop_at (vector_bytes w) other (length (vector_bytes v)) size,
    )

differ : (m n : ℕ) → m ≡ 0 → n ≡ 1 → m ≡ n → ⊥
differ m n zero_is one_is e = omega (arith, zero_is, one_is, e)

pub vector_agrees : (f : ℕ) (v w : List Bool) (bytes rest other : List ℕ) → BeginsVector f v bytes rest → BeginsVector f w bytes other → (v ≡ w) × (rest ≡ other)
vector_agrees f v w bytes rest other first second =
    elim (either f v bytes rest first) [
      | inl a ↦ elim (either f w bytes other second) [
        | inl b ↦ (a.zero ∙ sym b.zero, ap (λ (xs : List ℕ). drop 1 xs) (sym a.bytes_are ∙ b.bytes_are))
        | inr b ↦ absurd (differ _ _ (ap (λ (xs : List ℕ). get_or xs 0 0) a.bytes_are) (ap (λ (xs : List ℕ). get_or xs 0 0) b.bytes_are) refl)
      ]
      | inr a ↦ elim (either f w bytes other second) [
        | inl b ↦ absurd (differ _ _ (ap (λ (xs : List ℕ). get_or xs 0 0) b.bytes_are) (ap (λ (xs : List ℕ). get_or xs 0 0) a.bytes_are) refl)
        | inr b ↦ vector_bytes_agree v w rest other (first.places ∙ sym second.places) (ap (λ (xs : List ℕ). drop 1 xs) (sym a.bytes_are ∙ b.bytes_are))
      ]
    ]

-- ---- frames of states

abbrev pub magic_bytes : List ℕ
magic_bytes = 80 ∷ 67 ∷ 75 ∷ 84 ∷ 1 ∷ []

-- the parts of a frame
pub frame_made : (kind f : ℕ) (bytes framed sum magic rest about body : List ℕ) → kind < 256 → f < 2 ^ 32 → bytes ≡ framed ++ sum → framed ≡ magic ++ rest → rest ≡ about ++ body
    → magic ≡ magic_bytes → sum ≡ to_be_bytes w32 (crc32 framed) → about ≡ kind ∷ to_be_bytes w32 f → IsFrame bytes kind f body
unfolding frame
frame_made kind f bytes framed sum magic rest about body low few whole front back magic_is sum_is about_is =
    let framed_is : framed ≡ head kind f ++ body = front ∙ ap (λ (xs : List ℕ). xs ++ rest) magic_is ∙ ap (λ (xs : List ℕ). magic_bytes ++ xs) (back ∙ ap (λ (xs : List ℕ). xs ++ body) about_is) in
    record {
      kind_byte = low;
      places = few;
      is = whole ∙ ap (λ (xs : List ℕ). framed ++ xs) sum_is ∙ ap (λ (xs : List ℕ). xs ++ to_be_bytes w32 (crc32 xs)) framed_is;
    }

pub frame_size : (kind f : ℕ) (bytes body : List ℕ) → IsFrame bytes kind f body → length bytes ≡ length body + 14
unfolding frame
frame_size kind f bytes body is = ap (λ (xs : List ℕ). length xs) is.is ∙ omega (arith, length-append (head kind f ++ body) (to_be_bytes w32 (crc32 (head kind f ++ body))), length-append (head kind f) body)

pub frame_front : (kind f n : ℕ) (bytes body framed : List ℕ) → IsFrame bytes kind f body → n ≡ length bytes - 4 → framed ≡ take n bytes → framed ≡ head kind f ++ body
unfolding frame
frame_front kind f n bytes body framed is n_is framed_is =
    let size = frame_size kind f bytes body is in
    let len : length (head kind f ++ body) ≡ n = omega (arith, size, length-append (head kind f) body) in
    framed_is ∙ ap (λ (xs : List ℕ). take n xs) is.is ∙ take_at (head kind f ++ body) (to_be_bytes w32 (crc32 (head kind f ++ body))) n len

pub frame_sum : (kind f n : ℕ) (bytes body framed sum : List ℕ) → IsFrame bytes kind f body → n ≡ length bytes - 4 → framed ≡ take n bytes → sum ≡ drop n bytes → sum ≡ to_be_bytes w32 (crc32 framed)
unfolding frame
frame_sum kind f n bytes body framed sum is n_is framed_is sum_is =
    let size = frame_size kind f bytes body is in
    let len : length (head kind f ++ body) ≡ n = omega (arith, size, length-append (head kind f) body) in
    let front = frame_front kind f n bytes body framed is n_is framed_is in
    sum_is ∙ ap (λ (xs : List ℕ). drop n xs) is.is ∙ drop_at (head kind f ++ body) (to_be_bytes w32 (crc32 (head kind f ++ body))) n len ∙ ap (λ (xs : List ℕ). to_be_bytes w32 (crc32 xs)) (sym front)

pub frame_magic : (kind f n : ℕ) (bytes body framed magic : List ℕ) → IsFrame bytes kind f body → n ≡ length bytes - 4 → framed ≡ take n bytes → magic ≡ take 5 framed → magic ≡ magic_bytes
frame_magic kind f n bytes body framed magic is n_is framed_is magic_is = magic_is ∙ ap (λ (xs : List ℕ). take 5 xs) (frame_front kind f n bytes body framed is n_is framed_is)

-- five bytes are a kind and a number of places
pub about_is : (about : List ℕ) → length about ≡ 5 → ((i : ℕ) → get_or about i 0 < 256) → about ≡ get_or about 0 0 ∷ to_be_bytes w32 (from_be_bytes w32 (drop 1 about))
about_is about len are =
    let rest : to_be_bytes w32 (from_be_bytes w32 (drop 1 about)) ≡ drop 1 about = be_bytes_4 (drop 1 about) (from_be_bytes w32 (drop 1 about)) (omega (arith, length-drop 1 about)) (bytes_drop 1 about are) refl in
    drop_more about 0 0 (omega arith) ∙ ap (λ (xs : List ℕ). get_or about 0 0 ∷ xs) (sym rest)

pub four_fit : (bytes : List ℕ) → ((i : ℕ) → get_or bytes i 0 < 256) → from_be_bytes w32 bytes < 2 ^ 32
four_fit bytes are = omega (arith, are 0, are 1, are 2, are 3)

pub other_of : (k f kind g : ℕ) → ((k ≡ kind) → (f ≡ g) → ⊥) → (k ≢ kind) ⊎ (f ≢ g)
other_of k f kind g differ =
    elim (cases_eq k kind) [
      | inl same ↦ inr (λ places. differ same places)
      | inr other ↦ inl other
    ]

-- the head, a body and the checksum of both are a frame
pub Puts-frame : (kind f : ℕ) (o p q r body : List ℕ) (from end last : ℕ) → Puts o p 0 (head kind f) from → Puts p q from body end → Puts q r 0 (sealed (take end q)) last → end + 4 ≤ length o → Puts o r 0 (frame kind f body) last
unfolding frame
Puts-frame kind f o p q r body from end last first second third most =
    let both = Puts-then o p q (head kind f) body 0 from end first second (omega arith) in
    let written : take end q ≡ head kind f ++ body = ap (λ (xs : List ℕ). take end xs) both.is ∙ take_at (head kind f ++ body) (drop end o) end (omega (arith, both.end_is)) in
    let last_is : last ≡ length (head kind f ++ body) + 4 = omega (arith, third.end_is, ap (λ (xs : List ℕ). length (sealed xs)) written, length-append (head kind f ++ body) (to_be_bytes w32 (crc32 (head kind f ++ body)))) in
    let place : end + 4 ≡ last = omega (arith, last_is, both.end_is) in
    let rest : drop last q ≡ drop last o =
    ap (λ (xs : List ℕ). drop last xs) both.is ∙ ap (λ n. drop n (head kind f ++ body ++ drop end o)) last_is ∙ drop-append-add (head kind f ++ body) (drop end o) 4 ∙ drop-drop 4 end o ∙ ap (λ n. drop n o) place in
    record {
      end_is = third.end_is ∙ ap (λ (xs : List ℕ). 0 + length (sealed xs)) written;
      is = third.is ∙ ap (λ (xs : List ℕ). sealed xs ++ drop last q) written ∙ ap (λ (xs : List ℕ). sealed (head kind f ++ body) ++ xs) rest;
      len = third.len ∙ second.len ∙ first.len;
    }

-- a state is one of one kind, one number of places and one body
pub frames_agree : (kind f k g : ℕ) (bytes body other : List ℕ) → IsFrame bytes kind f body → IsFrame bytes k g other → (kind ≡ k) × (f ≡ g) × (body ≡ other)
frames_agree kind f k g bytes body other first second =
    let n : ℕ = length bytes - 4 in
    let same : head kind f ++ body ≡ head k g ++ other =
    sym (frame_front kind f (length bytes - 4) bytes body (take (length bytes - 4) bytes) first refl refl) ∙ frame_front k g (length bytes - 4) bytes other (take (length bytes - 4) bytes) second refl refl in
    let four : to_be_bytes w32 f ≡ to_be_bytes w32 g = ap (λ (xs : List ℕ). take 4 (drop 6 xs)) same in
    let places : f ≡ g = sym (from_be_bytes-to_be_bytes_4 f first.places) ∙ ap (λ (xs : List ℕ). from_be_bytes w32 xs) four ∙ from_be_bytes-to_be_bytes_4 g second.places in
    (ap (λ (xs : List ℕ). get_or xs 5 0) same, places, ap (λ (xs : List ℕ). drop 10 xs) same)
