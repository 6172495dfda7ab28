-- Exact readers, put together in further ways.
use Rattle.std.proofs.Common.{◌≡◌, ℕ, ◌-◌, Bool, true, false, cond, List, [], ◌∷◌, ◌++◌, length, refl, sym, ap, ◌∙◌, subst, arith}
use Rattle.std.proofs.lemmas.List.{length-append, append-nil}
use Rattle.bit_vectors.specs.Reading.{any_bit, Parsed, Read, WrongBit, TooShort, ◌>>=◌, bit_where, allowed, parse_word, IsExact}
use Rattle.bit_vectors.proofs.ExactReading.{IsBitWhere, IsWordThen, IsExact-give, IsExact-bit_where, IsExact-same, IsExact-then, IsExact-same_at}
use Rattle.packet_decode.specs.PartWords.{IsBitThen, NoWord}

-- there is a word of some value
abbrev pub HasWord : {A : Type 0} → (A → List Bool → Type 0) → Type 0
HasWord {A} W = (v : A) × (word : List Bool) × W v word

-- ---- a value seen in another way

abbrev pub IsImage : {A B : Type 0} → (A → B) → (A → List Bool → Type 0) → B → List Bool → Type 0
IsImage {A} h W u word = (v : A) × W v word × (u ≡ h v)

pub IsExact-map : {A B : Type 0} (h : A → B) (W : A → List Bool → Type 0) (f : List Bool → Parsed A) → IsExact W f → IsExact (IsImage h W) (λ bits. f bits >>= λ v rest. Read (h v) rest)
IsExact-map h W f exact =
    IsExact-same (IsWordThen W (λ v u word. (u ≡ h v) × (word ≡ []))) (IsImage h W) (λ bits. f bits >>= λ v rest. Read (h v) rest)
    (λ u word w. (w.0, subst (λ (x : List Bool). W w.0 x) (sym (w.5 ∙ ap (λ (x : List Bool). w.1 ++ x) w.4.1 ∙ append-nil w.1)) w.3, w.4.0))
    (λ u word i. (i.0, word, [], i.1, (i.2, refl), sym (append-nil word)))
    (IsExact-then W (λ v u word. (u ≡ h v) × (word ≡ [])) f (λ v rest. Read (h v) rest) exact (λ v word w. IsExact-give (h v)) (λ v word w. (h v, [], (refl, refl))))

-- ---- a bit, and then by it

pub any_may : (bit : Bool) → allowed true true bit ≡ true
any_may true = refl
any_may false = refl

abbrev by_bit : {A : Type 0} → (A → List Bool → Type 0) → (A → List Bool → Type 0) → Bool → A → List Bool → Type 0
by_bit U V true = U
by_bit U V false = V

bit_joined : {A : Type 0} (ok : Bool → Bool) (U V : A → List Bool → Type 0) (u : A) (word : List Bool) (bit : Bool) (front back : List Bool) → front ≡ bit ∷ [] → by_bit U V bit u back → word ≡ front ++ back → IsBitThen U V u word
bit_joined ok U V u word true front back f b w = rw (w, f) b
bit_joined ok U V u word false front back f b w = rw (w, f) b

bit_apart : {A : Type 0} (U V : A → List Bool → Type 0) (u : A) (word : List Bool) → IsBitThen U V u word → IsWordThen (IsBitWhere (allowed true true)) (by_bit U V) u word
bit_apart U V u [] w = absurd w
bit_apart U V u (true ∷ word) w = (true, true ∷ [], word, (refl, refl), w, refl)
bit_apart U V u (false ∷ word) w = (false, false ∷ [], word, (refl, refl), w, refl)

bit_exact : {A : Type 0} (U V : A → List Bool → Type 0) (f g : List Bool → Parsed A) → IsExact U f → IsExact V g → (bit : Bool) → IsExact (by_bit U V bit) (λ rest. cond bit (f rest) (g rest))
bit_exact U V f g first second true = first
bit_exact U V f g first second false = second

bit_word : {A : Type 0} (U V : A → List Bool → Type 0) → HasWord U → HasWord V → (bit : Bool) → HasWord (by_bit U V bit)
bit_word U V first second true = first
bit_word U V first second false = second

pub IsExact-bit : {A : Type 0} (U V : A → List Bool → Type 0) (f g : List Bool → Parsed A) → IsExact U f → IsExact V g → HasWord U → HasWord V → IsExact (IsBitThen U V) (λ bits. any_bit bits >>= λ bit rest. cond bit (f rest) (g rest))
IsExact-bit U V f g first second some other =
    IsExact-same (IsWordThen (IsBitWhere (allowed true true)) (by_bit U V)) (IsBitThen U V) (λ bits. any_bit bits >>= λ bit rest. cond bit (f rest) (g rest))
    (λ u word w. bit_joined (λ bit. true) U V u word w.0 w.1 w.2 w.3.1 w.4 w.5)
    (bit_apart U V)
    (IsExact-then (IsBitWhere (allowed true true)) (by_bit U V) (bit_where (allowed true true)) (λ bit rest. cond bit (f rest) (g rest))
    (IsExact-bit_where (allowed true true) true refl)
    (λ bit word w. bit_exact U V f g first second bit)
    (λ bit word w. bit_word U V some other bit))

-- a one, and then a word
one_joined : {A : Type 0} (U : A → List Bool → Type 0) (u : A) (word : List Bool) (bit : Bool) (front back : List Bool) → allowed false true bit ≡ true → front ≡ bit ∷ [] → U u back → word ≡ front ++ back → IsBitThen U NoWord u word
one_joined U u word true front back ok f b w = rw (w, f) b
one_joined U u word false front back ok f b w = absurd cc

one_apart : {A : Type 0} (U : A → List Bool → Type 0) (u : A) (word : List Bool) → IsBitThen U NoWord u word → IsWordThen (IsBitWhere (allowed false true)) (λ bit. U) u word
one_apart U u [] w = absurd w
one_apart U u (true ∷ word) w = (true, true ∷ [], word, (refl, refl), w, refl)
one_apart U u (false ∷ word) w = absurd w

pub IsExact-one : {A : Type 0} (U : A → List Bool → Type 0) (f : List Bool → Parsed A) → IsExact U f → HasWord U → IsExact (IsBitThen U NoWord) (λ bits. bit_where (allowed false true) bits >>= λ bit rest. f rest)
IsExact-one U f exact some =
    IsExact-same (IsWordThen (IsBitWhere (allowed false true)) (λ bit. U)) (IsBitThen U NoWord) (λ bits. bit_where (allowed false true) bits >>= λ bit rest. f rest)
    (λ u word w. one_joined U u word w.0 w.1 w.2 w.3.0 w.3.1 w.4 w.5)
    (one_apart U)
    (IsExact-then (IsBitWhere (allowed false true)) (λ bit. U) (bit_where (allowed false true)) (λ bit rest. f rest)
    (IsExact-bit_where (allowed false true) true refl)
    (λ bit word w. exact)
    (λ bit word w. some))

-- ---- a fixed word, and then others

abbrev pub FollowsFront : {A : Type 0} → List Bool → (A → List Bool → Type 0) → A → List Bool → Type 0
FollowsFront front U u word = (back : List Bool) × U u back × (word ≡ front ++ back)

pub IsExact-after : {A : Type 0} (front : List Bool) (U : A → List Bool → Type 0) (f : List Bool → Parsed A) → IsExact U f → HasWord U → IsExact (FollowsFront front U) (λ bits. parse_word front bits >>= λ u rest. f rest)
IsExact-after front U f exact some =
    IsExact-same (IsWordThen (λ (u : Unit {0}) (word : List Bool). word ≡ front) (λ u. U)) (FollowsFront front U) (λ bits. parse_word front bits >>= λ u rest. f rest)
    (λ u word w. (w.2, w.4, w.5 ∙ ap (λ (x : List Bool). x ++ w.2) w.3))
    (λ u word w. (tt, front, w.0, refl, w.1, w.2))
    (IsExact-then (λ (u : Unit {0}) (word : List Bool). word ≡ front) (λ u. U) (parse_word front) (λ u rest. f rest)
    (IsExact-same_at front)
    (λ u word w. exact)
    (λ u word w. some))

-- ---- how many bits were read

-- the same reader, said in another way
pub IsExact-by : {A : Type 0} (W : A → List Bool → Type 0) (f g : List Bool → Parsed A) → ((bits : List Bool) → g bits ≡ f bits) → IsExact W f → IsExact W g
IsExact-by W f g same exact = record {
  reads = λ v word rest w. same (word ++ rest) ∙ exact.reads v word rest w;
  read_is = λ bits v rest e. exact.read_is bits v rest (sym (same bits) ∙ e);
  wrong_is = λ bits rest e. exact.wrong_is bits rest (sym (same bits) ∙ e);
  short_is = λ bits e. exact.short_is bits (sym (same bits) ∙ e);
}

-- a value, and the number of the bits that spell it
abbrev pub IsCounted : {A : Type 0} → (A → List Bool → Type 0) → A × ℕ → List Bool → Type 0
IsCounted W found word = W found.0 word × (found.1 ≡ length word)

abbrev pub counted : {A : Type 0} → ℕ → Parsed A → Parsed (A × ℕ)
counted len r = r >>= λ v rest. Read (v, len - length rest) rest

counted_read : {A : Type 0} (len : ℕ) (r : Parsed A) (found : A × ℕ) (rest : List Bool) → counted len r ≡ Read found rest → (r ≡ Read found.0 rest) × (found.1 ≡ len - length rest)
counted_read len (Read v mid) found rest e = let same : (v, len - length mid) ≡ found = cc in let left : mid ≡ rest = cc in (rw (left, ← same) refl, rw (← same, left) refl)
counted_read len (WrongBit mid) found rest e = absurd cc
counted_read len TooShort found rest e = absurd cc

counted_wrong : {A : Type 0} (len : ℕ) (r : Parsed A) (rest : List Bool) → counted len r ≡ WrongBit rest → r ≡ WrongBit rest
counted_wrong len (Read v mid) rest e = absurd cc
counted_wrong {A} len (WrongBit mid) rest e = let left : mid ≡ rest = cc in rw left refl
counted_wrong len TooShort rest e = absurd cc

counted_short : {A : Type 0} (len : ℕ) (r : Parsed A) → counted len r ≡ TooShort → r ≡ TooShort
counted_short len (Read v mid) e = absurd cc
counted_short len (WrongBit mid) e = absurd cc
counted_short len TooShort e = refl

pub IsExact-counted : {A : Type 0} (W : A → List Bool → Type 0) (f : List Bool → Parsed A) → IsExact W f → IsExact (IsCounted W) (λ bits. counted (length bits) (f bits))
IsExact-counted W f exact = record {
  reads = λ found word rest w.
      let count : length (word ++ rest) - length rest ≡ found.1 = omega (arith, length-append word rest, w.1) in
      rw (exact.reads found.0 word rest w.0, count) refl;
  read_is = λ bits found rest e.
      let c = counted_read (length bits) (f bits) found rest e in
      let r = exact.read_is bits found.0 rest c.0 in
      (r.0, (r.1, omega (arith, c.1, ap (λ (x : List Bool). length x) r.2, length-append r.0 rest)), r.2);
  wrong_is = λ bits rest e.
      let w = exact.wrong_is bits rest (counted_wrong (length bits) (f bits) rest e) in
      record {
        front = w.front;
        bit = w.bit;
        parts = w.parts;
        hopeful = (w.hopeful.0, ((w.hopeful.1.0, length (w.front ++ w.hopeful.0)), (w.hopeful.1.1, refl)));
        hopeless = λ h. w.hopeless (h.0, (h.1.0.0, h.1.1.0));
      };
  short_is = λ bits e.
      let c = exact.short_is bits (counted_short (length bits) (f bits) e) in
      (c.0, ((c.1.0, length (bits ++ c.0)), (c.1.1, refl)));
}

-- a reader that looks at the number of bits before it
pub counted_then : {A B : Type 0} (len : ℕ) (r : Parsed A) (g : A → ℕ → List Bool → Parsed B) → (r >>= λ v rest. g v (len - length rest) rest) ≡ (counted len r >>= λ found rest. g found.0 found.1 rest)
counted_then len (Read v rest) g = refl
counted_then len (WrongBit rest) g = refl
counted_then len TooShort g = refl
