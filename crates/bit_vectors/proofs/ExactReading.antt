-- Exact readers: how they are combined, that they read one word and no other, and what an eye then reads.
use Rattle.std.specs.Prelude.{IsOk, IfErr, not, OnOk}
use Rattle.std.proofs.Common.{◌≡◌, ℕ, ◌≤◌, Bool, true, false, cond, List, [], ◌∷◌, ◌++◌, length, take, drop, ◌⊎◌, refl, sym, ap, ◌∙◌, subst, arith, append_assoc, inl, inr, ◌+◌, ◌-◌, ◌<◌, Result, Ok, Err}
use Rattle.std.proofs.lemmas.Bool.{cases_lt, true≢false}
use Rattle.std.proofs.lemmas.List.{length-append, take-append-drop, length-drop, take_at}
use Rattle.bit_vectors.specs.Reading.{Parsed, Read, WrongBit, TooShort, ◌>>=◌, bit_where, CanBegin, IsWrongBefore, IsExact, EyeState, bits_left, MovesOn, Gives, IsFirstWrong, IsEarlyEnd, IsFirstFault, allowed, parse_word}
use Rattle.bit_vectors.specs.declared.fault.BitFault.{BitFault}
use Rattle.bit_vectors.specs.declared.fault.BitFault.TheVariants.{Wrong, EndsEarly}

-- ---- two ways to cut a list

pub cut_longer : (a b c d : List Bool) → a ++ b ≡ c ++ d → length a ≤ length c → (m : List Bool) × (c ≡ a ++ m) × (b ≡ m ++ d)
cut_longer [] b c d e le = (c, refl, e)
cut_longer (x ∷ a) b [] d e le = absurd (omega arith)
cut_longer (x ∷ a) b (y ∷ c) d e le =
    let heads : x ≡ y = cc in
    let tails : a ++ b ≡ c ++ d = cc in
    let m = cut_longer a b c d tails (omega arith) in
    (m.0, rw heads (ap (λ (t : List Bool). y ∷ t) m.1), m.2)

-- a word that comes next is read
pub IsExact-next : {A : Type 0} (W : A → List Bool → Type 0) (f : List Bool → Parsed A) → IsExact W f → (value : A) (word bits : List Bool) (width : ℕ) → W value word → take width bits ≡ word → f bits ≡ Read value (drop width bits)
IsExact-next W f exact value word bits width w next =
    ap f (sym (take-append-drop width bits) ∙ ap (λ (front : List Bool). front ++ drop width bits) next) ∙ exact.reads value word (drop width bits) w

-- ---- single steps

pub read_same : {A : Type 0} (x y : A) (r s : List Bool) → ◌≡◌ {A = Parsed A} (Read x r) (Read y s) → (x ≡ y) × (r ≡ s)
read_same x y r s e = (cc, cc)

heads_same : (a b : Bool) (r s : List Bool) → a ∷ r ≡ b ∷ s → a ≡ b
heads_same a b r s e = cc

read_or_wrong : {A : Type 0} (r : Parsed A) (v : A) (s t : List Bool) → r ≡ Read v s → r ≡ WrongBit t → ⊥
read_or_wrong r v s t read wrong = cc

wrong_same : {A : Type 0} (r s : List Bool) → ◌≡◌ {A = Parsed A} (WrongBit r) (WrongBit s) → r ≡ s
wrong_same r s e = cc

-- a reader that takes no bit
pub IsExact-give : {A : Type 0} (v : A) → IsExact (λ (u : A) (word : List Bool). (u ≡ v) × (word ≡ [])) (λ bits. Read v bits)
IsExact-give v = record {
  reads = λ u word rest w. rw (w.0, w.1) refl;
  read_is = λ bits u rest e. ([], (sym (read_same v u bits rest e).0, refl), (read_same v u bits rest e).1);
  wrong_is = λ bits rest e. absurd cc;
  short_is = λ bits e. absurd cc;
}

picked_read : (t : Bool) (a b : Bool) (r s : List Bool) → cond t (Read a r) (WrongBit r) ≡ Read b s → (t ≡ true) × (a ≡ b) × (r ≡ s)
picked_read true a b r s e = (refl, cc, cc)
picked_read false a b r s e = absurd cc

picked_wrong : (t : Bool) (a : Bool) (r s : List Bool) → cond t (Read a r) (WrongBit r) ≡ WrongBit s → (t ≡ false) × (r ≡ s)
picked_wrong true a r s e = absurd cc
picked_wrong false a r s e = (refl, cc)

picked_short : (t : Bool) (a : Bool) (r : List Bool) → cond t (Read a r) (WrongBit r) ≡ TooShort → ⊥
picked_short true a r e = cc
picked_short false a r e = cc

-- a bit that passes a test
abbrev pub IsBitWhere : (Bool → Bool) → Bool → List Bool → Type 0
IsBitWhere ok bit word = (ok bit ≡ true) × (word ≡ bit ∷ [])

bit_reads : (ok : Bool → Bool) (bits : List Bool) (bit : Bool) (rest : List Bool) → bit_where ok bits ≡ Read bit rest → (word : List Bool) × IsBitWhere ok bit word × (bits ≡ word ++ rest)
bit_reads ok [] bit rest e = absurd cc
bit_reads ok (b ∷ bits) bit rest e =
    let p = picked_read (ok b) b bit bits rest e in
    (bit ∷ [], (ap ok (sym p.1) ∙ p.0, refl), rw (p.1, p.2) refl)

bit_wrong : (ok : Bool → Bool) (some : Bool) → ok some ≡ true → (bits rest : List Bool) → bit_where ok bits ≡ WrongBit rest → IsWrongBefore (λ word. (bit : Bool) × IsBitWhere ok bit word) bits rest
bit_wrong ok some some_ok [] rest e = absurd cc
bit_wrong ok some some_ok (b ∷ bits) rest e =
    let p = picked_wrong (ok b) b bits rest e in
    record {
      front = [];
      bit = b;
      parts = rw p.1 refl;
      hopeful = (some ∷ [], (some, (some_ok, refl)));
      hopeless = λ h. let same : b ≡ h.1.0 = heads_same b h.1.0 h.0 [] h.1.1.1 in true≢false (sym h.1.1.0 ∙ ap ok (sym same) ∙ p.0);
    }

bit_short : (ok : Bool → Bool) (some : Bool) → ok some ≡ true → (bits : List Bool) → bit_where ok bits ≡ TooShort → CanBegin (λ word. (bit : Bool) × IsBitWhere ok bit word) bits
bit_short ok some some_ok [] e = (some ∷ [], (some, (some_ok, refl)))
bit_short ok some some_ok (b ∷ bits) e = absurd (picked_short (ok b) b bits e)

pub IsExact-bit_where : (ok : Bool → Bool) (some : Bool) → ok some ≡ true → IsExact (IsBitWhere ok) (bit_where ok)
IsExact-bit_where ok some some_ok = record {
  reads = λ bit word rest w. rw (w.1, w.0) refl;
  read_is = bit_reads ok;
  wrong_is = bit_wrong ok some some_ok;
  short_is = bit_short ok some some_ok;
}

-- the same words, described in another way
pub IsExact-same : {A : Type 0} (W U : A → List Bool → Type 0) (f : List Bool → Parsed A) → ((v : A) (word : List Bool) → W v word → U v word) → ((v : A) (word : List Bool) → U v word → W v word) → IsExact W f → IsExact U f
IsExact-same W U f to from exact = record {
  reads = λ v word rest u. exact.reads v word rest (from v word u);
  read_is = λ bits v rest e. let r = exact.read_is bits v rest e in (r.0, to v r.0 r.1, r.2);
  wrong_is = λ bits rest e. let w = exact.wrong_is bits rest e in record {
    front = w.front;
    bit = w.bit;
    parts = w.parts;
    hopeful = (w.hopeful.0, (w.hopeful.1.0, to w.hopeful.1.0 (w.front ++ w.hopeful.0) w.hopeful.1.1));
    hopeless = λ h. w.hopeless (h.0, (h.1.0, from h.1.0 ((w.front ++ w.bit ∷ []) ++ h.0) h.1.1));
  };
  short_is = λ bits e. let c = exact.short_is bits e in (c.0, (c.1.0, to c.1.0 (bits ++ c.0) c.1.1));
}

-- ---- one reader after another

then_read : {A B : Type 0} (g : A → List Bool → Parsed B) (r : Parsed A) (u : B) (rest : List Bool) → (r >>= g) ≡ Read u rest → (v : A) × (mid : List Bool) × (r ≡ Read v mid) × (g v mid ≡ Read u rest)
then_read g (Read v mid) u rest e = (v, mid, refl, e)
then_read g (WrongBit mid) u rest e = absurd cc
then_read g TooShort u rest e = absurd cc

then_wrong : {A B : Type 0} (g : A → List Bool → Parsed B) (r : Parsed A) (rest : List Bool) → (r >>= g) ≡ WrongBit rest → (r ≡ WrongBit rest) ⊎ ((v : A) × (mid : List Bool) × (r ≡ Read v mid) × (g v mid ≡ WrongBit rest))
then_wrong g (Read v mid) rest e = inr (v, mid, refl, e)
then_wrong {B = B} g (WrongBit mid) rest e = inl (let same : mid ≡ rest = wrong_same {A = B} mid rest e in rw same refl)
then_wrong g TooShort rest e = absurd cc

then_short : {A B : Type 0} (g : A → List Bool → Parsed B) (r : Parsed A) → (r >>= g) ≡ TooShort → (r ≡ TooShort) ⊎ ((v : A) × (mid : List Bool) × (r ≡ Read v mid) × (g v mid ≡ TooShort))
then_short g (Read v mid) e = inr (v, mid, refl, e)
then_short g (WrongBit mid) e = absurd cc
then_short g TooShort e = inl refl

-- a word of the first, and then one of the second that depends on its value
abbrev pub IsWordThen : {A B : Type 0} → (A → List Bool → Type 0) → (A → B → List Bool → Type 0) → B → List Bool → Type 0
IsWordThen {A} {B} W U u word = (v : A) × (a : List Bool) × (b : List Bool) × W v a × U v u b × (word ≡ a ++ b)

module _ {A B : Type 0} (W : A → List Bool → Type 0) (U : A → B → List Bool → Type 0) (f : List Bool → Parsed A) (g : A → List Bool → Parsed B)
    (first : IsExact W f) (second : (v : A) (word : List Bool) → W v word → IsExact (U v) (g v)) (some : (v : A) (word : List Bool) → W v word → (u : B) × (w : List Bool) × U v u w) where
  both_read : (u : B) (word rest : List Bool) → IsWordThen W U u word → (f (word ++ rest) >>= g) ≡ Read u rest
  both_read u word rest t =
      let parts : word ++ rest ≡ t.1 ++ (t.2 ++ rest) = ap (λ (w : List Bool). w ++ rest) t.5 ∙ append_assoc t.1 t.2 rest in
      ap (λ (bits : List Bool). f bits >>= g) parts ∙ ap (λ (r : Parsed A). r >>= g) (first.reads t.0 t.1 (t.2 ++ rest) t.3) ∙ (second t.0 t.1 t.3).reads u t.2 rest t.4

  both_read_is : (bits : List Bool) (u : B) (rest : List Bool) → (f bits >>= g) ≡ Read u rest → (word : List Bool) × IsWordThen W U u word × (bits ≡ word ++ rest)
  both_read_is bits u rest e =
      let s = then_read g (f bits) u rest e in
      let a = first.read_is bits s.0 s.1 s.2 in
      let b = (second s.0 a.0 a.1).read_is s.1 u rest s.3 in
      (a.0 ++ b.0, (s.0, a.0, b.0, a.1, b.1, refl), a.2 ∙ ap (λ (r : List Bool). a.0 ++ r) b.2 ∙ sym (append_assoc a.0 b.0 rest))

  -- the first reader finds the fault
  wrong_first : (bits rest : List Bool) → f bits ≡ WrongBit rest → IsWrongBefore (λ word. (u : B) × IsWordThen W U u word) bits rest
  wrong_first bits rest e =
      let w = first.wrong_is bits rest e in
      let s = some w.hopeful.1.0 (w.front ++ w.hopeful.0) w.hopeful.1.1 in
      record {
        front = w.front;
        bit = w.bit;
        parts = w.parts;
        hopeful = (w.hopeful.0 ++ s.1, (s.0, (w.hopeful.1.0, w.front ++ w.hopeful.0, s.1, w.hopeful.1.1, s.2, sym (append_assoc w.front w.hopeful.0 s.1))));
        hopeless = λ h. let t = h.1.1 in elim (cases_lt (length w.front) (length t.1)) [
          | inl lt ↦
              let m = cut_longer (w.front ++ w.bit ∷ []) h.0 t.1 t.2 t.5 (omega (arith, length-append w.front (w.bit ∷ []))) in
              w.hopeless (m.0, (t.0, subst (λ (word : List Bool). W t.0 word) m.1 t.3))
          | inr le ↦
              let m = cut_longer t.1 t.2 w.front (w.bit ∷ h.0) (sym t.5 ∙ append_assoc w.front (w.bit ∷ []) h.0) le in
              let parts : bits ≡ t.1 ++ (m.0 ++ w.bit ∷ rest) = w.parts ∙ ap (λ (x : List Bool). x ++ w.bit ∷ rest) m.1 ∙ append_assoc t.1 m.0 (w.bit ∷ rest) in
              let read : f bits ≡ Read t.0 (m.0 ++ w.bit ∷ rest) = ap f parts ∙ first.reads t.0 t.1 (m.0 ++ w.bit ∷ rest) t.3 in
              read_or_wrong (f bits) t.0 (m.0 ++ w.bit ∷ rest) rest read e
        ];
      }

  -- the second reader finds the fault
  wrong_second : (bits rest : List Bool) (v : A) (mid : List Bool) → f bits ≡ Read v mid → g v mid ≡ WrongBit rest → IsWrongBefore (λ word. (u : B) × IsWordThen W U u word) bits rest
  wrong_second bits rest v mid read e =
      let a = first.read_is bits v mid read in
      let w = (second v a.0 a.1).wrong_is mid rest e in
      record {
        front = a.0 ++ w.front;
        bit = w.bit;
        parts = a.2 ∙ ap (λ (x : List Bool). a.0 ++ x) w.parts ∙ sym (append_assoc a.0 w.front (w.bit ∷ rest));
        hopeful = (w.hopeful.0, (w.hopeful.1.0, (v, a.0, w.front ++ w.hopeful.0, a.1, w.hopeful.1.1, append_assoc a.0 w.front w.hopeful.0)));
        hopeless = λ h.
            let t = h.1.1 in
            let same_list : a.0 ++ ((w.front ++ w.bit ∷ []) ++ h.0) ≡ t.1 ++ t.2 =
            sym (append_assoc a.0 (w.front ++ w.bit ∷ []) h.0) ∙ ap (λ (x : List Bool). x ++ h.0) (sym (append_assoc a.0 w.front (w.bit ∷ []))) ∙ t.5 in
            let same = read_same v t.0 ((w.front ++ w.bit ∷ []) ++ h.0) t.2 (sym (first.reads v a.0 ((w.front ++ w.bit ∷ []) ++ h.0) a.1) ∙ ap f same_list ∙ first.reads t.0 t.1 t.2 t.3) in
            w.hopeless (h.0, (h.1.0, subst (λ (y : List Bool). U v h.1.0 y) (sym same.1) (subst (λ (z : A). U z h.1.0 t.2) (sym same.0) t.4)));
      }

  both_wrong : (bits rest : List Bool) → (f bits >>= g) ≡ WrongBit rest → IsWrongBefore (λ word. (u : B) × IsWordThen W U u word) bits rest
  both_wrong bits rest e =
      elim (then_wrong g (f bits) rest e) [ inl here ↦ wrong_first bits rest here | inr later ↦ wrong_second bits rest later.0 later.1 later.2 later.3 ]

  short_first : (bits : List Bool) → f bits ≡ TooShort → CanBegin (λ word. (u : B) × IsWordThen W U u word) bits
  short_first bits e =
      let c = first.short_is bits e in
      let s = some c.1.0 (bits ++ c.0) c.1.1 in
      (c.0 ++ s.1, (s.0, (c.1.0, bits ++ c.0, s.1, c.1.1, s.2, sym (append_assoc bits c.0 s.1))))

  short_second : (bits : List Bool) (v : A) (mid : List Bool) → f bits ≡ Read v mid → g v mid ≡ TooShort → CanBegin (λ word. (u : B) × IsWordThen W U u word) bits
  short_second bits v mid read e =
      let a = first.read_is bits v mid read in
      let c = (second v a.0 a.1).short_is mid e in
      (c.0, (c.1.0, (v, a.0, mid ++ c.0, a.1, c.1.1, ap (λ (x : List Bool). x ++ c.0) a.2 ∙ append_assoc a.0 mid c.0)))

  both_short : (bits : List Bool) → (f bits >>= g) ≡ TooShort → CanBegin (λ word. (u : B) × IsWordThen W U u word) bits
  both_short bits e =
      elim (then_short g (f bits) e) [ inl here ↦ short_first bits here | inr later ↦ short_second bits later.0 later.1 later.2 later.3 ]

  pub IsExact-then : IsExact (IsWordThen W U) (λ bits. f bits >>= g)
  IsExact-then = record { reads = both_read; read_is = both_read_is; wrong_is = both_wrong; short_is = both_short }

-- ---- what follows when an exact reader describes an eye's reading

pub MovesOn-refl : (eye : EyeState) → MovesOn eye eye
MovesOn-refl eye = record { bits = refl; forward = omega arith }

pub MovesOn-then : (a b c : EyeState) → MovesOn a b → MovesOn b c → MovesOn a c
MovesOn-then a b c p q = record { bits = q.bits ∙ p.bits; forward = omega (arith, p.forward, q.forward) }

-- a call that passes on what another call answered
pub Gives-then_err : {A B C D : Type 0} (view : A → B) (see : C → D) (fault : BitFault) (new : EyeState) (reading : Parsed B) (next : B → List Bool → Parsed D) → Gives view (Err fault) new reading → Gives see (Err fault) new (reading >>= next)
Gives-then_err view see (Wrong bit) new reading next h = (rw h.0 refl, h.1, h.2)
Gives-then_err view see (EndsEarly bit) new reading next h = (rw h.0 refl, h.1, h.2)

-- ---- described by an exact reader

pub only_read : {B : Type 0} (v w : B) (rest : List Bool) (new : EyeState) (result : Result (Unit {0}) BitFault) (reading : Parsed B) → Gives (λ (u : Unit {0}). v) result new reading → reading ≡ Read w rest → IsOk result × (v ≡ w)
only_read v w rest new (Ok u) reading given read = (refl, cc)
only_read v w rest new (Err (Wrong bit)) reading given read = let wrong = given.0 in absurd cc
only_read v w rest new (Err (EndsEarly bit)) reading given read = let short = given.0 in absurd cc

only_value : {B : Type 0} (result : Result B BitFault) (new : EyeState) (reading : Parsed B) (value : B) (rest : List Bool) → Gives (λ (x : B). x) result new reading → reading ≡ Read value rest → result ≡ Ok value
only_value (Ok x) new reading value rest given is = cc
only_value (Err (Wrong bit)) new reading value rest given is = let wrong = given.0 in absurd cc
only_value (Err (EndsEarly bit)) new reading value rest given is = let short = given.0 in absurd cc

pub only_by : {B : Type 0} (W : B → List Bool → Type 0) (f : List Bool → Parsed B) → IsExact W f → (old new : EyeState) (result : Result B BitFault) → Gives (λ (x : B). x) result new (f (bits_left old))
    → (value : B) (word rest : List Bool) → W value word → bits_left old ≡ word ++ rest → result ≡ Ok value
only_by W f exact old new result given value word rest w e = only_value result new (f (bits_left old)) value rest given (ap f e ∙ exact.reads value word rest w)

-- ---- faults

first_wrong : {B : Type 0} (W : B → List Bool → Type 0) (f : List Bool → Parsed B) → IsExact W f → (old new : EyeState) (bit : ℕ) → MovesOn old new → f (bits_left old) ≡ WrongBit (bits_left new) → bit < length new.bits → new.place ≡ bit + 1
    → IsFirstWrong (λ word. (value : B) × W value word) old new bit
first_wrong W f exact old new bit moves wrong within after =
    let w = exact.wrong_is (bits_left old) (bits_left new) wrong in
    let len = ap (λ (bits : List Bool). length bits) w.parts in
    let count : old.place + length w.front ≡ bit = omega (arith, length-append w.front (w.bit ∷ bits_left new), length-drop old.place old.bits, length-drop new.place new.bits, ap (λ (bits : List Bool). length bits) moves.bits) in
    let before : take (bit - old.place) (bits_left old) ≡ w.front = ap (take (bit - old.place)) w.parts ∙ take_at w.front (w.bit ∷ bits_left new) (bit - old.place) (omega arith) in
    let and_it : take (bit + 1 - old.place) (bits_left old) ≡ w.front ++ w.bit ∷ [] =
    ap (take (bit + 1 - old.place)) (w.parts ∙ sym (append_assoc w.front (w.bit ∷ []) (bits_left new))) ∙ (take_at (w.front ++ w.bit ∷ []) (bits_left new) (bit + 1 - old.place) (omega (arith, length-append w.front (w.bit ∷ [])))) in
    record {
      inside = omega arith;
      after = after;
      hopeful = rw before w.hopeful;
      hopeless = λ h. w.hopeless (rw and_it at h);
    }

short_or_read : {B : Type 0} (r : Parsed B) (v : B) (rest : List Bool) → r ≡ TooShort → r ≡ Read v rest → ⊥
short_or_read r v rest short read = cc

early_end : {B : Type 0} (W : B → List Bool → Type 0) (f : List Bool → Parsed B) → IsExact W f → (old new : EyeState) (bit : ℕ) → MovesOn old new → f (bits_left old) ≡ TooShort → bit ≡ length new.bits → new.place ≡ length new.bits
    → IsEarlyEnd (λ word. (value : B) × W value word) old new bit
early_end W f exact old new bit moves short all at_end = record {
  all = rw (← moves.bits) all;
  at_end = rw (← moves.bits) at_end;
  hopeful = exact.short_is (bits_left old) short;
  incomplete = λ word rest w parts. short_or_read (f (bits_left old)) w.0 rest short (ap f parts ∙ exact.reads w.0 word rest w.1);
}

pub fault_by : {A B : Type 0} (W : B → List Bool → Type 0) (f : List Bool → Parsed B) → IsExact W f → (view : A → B) (old new : EyeState) (result : Result A BitFault) → MovesOn old new → Gives view result new (f (bits_left old))
    → IfErr result (λ fault. IsFirstFault (λ word. (value : B) × W value word) old new fault)
fault_by W f exact view old new (Ok x) moves given = tt
fault_by W f exact view old new (Err (Wrong bit)) moves given = first_wrong W f exact old new bit moves given.0 given.1 given.2
fault_by W f exact view old new (Err (EndsEarly bit)) moves given = early_end W f exact old new bit moves given.0 given.1 given.2

-- ---- one word after another

pub parse_word-append : (a b bits : List Bool) → parse_word (a ++ b) bits ≡ (parse_word a bits >>= λ u rest. parse_word b rest)
unfolding parse_word
parse_word-append [] b bits = refl
parse_word-append (x ∷ a) b [] = refl
parse_word-append (true ∷ a) b (true ∷ bits) = parse_word-append a b bits
parse_word-append (true ∷ a) b (false ∷ bits) = refl
parse_word-append (false ∷ a) b (true ∷ bits) = refl
parse_word-append (false ∷ a) b (false ∷ bits) = parse_word-append a b bits

pub same_fault : (a b : List Bool) (old new : EyeState) (fault : BitFault) → Gives (λ (u : Unit {0}). tt) (Err fault) new (parse_word a (bits_left old)) → Gives (λ (u : Unit {0}). tt) (Err fault) new (parse_word (a ++ b) (bits_left old))
same_fault a b old new fault given =
    rw (parse_word-append a b (bits_left old)) (Gives-then_err (λ (u : Unit {0}). tt) (λ (u : Unit {0}). tt) fault new (parse_word a (bits_left old)) (λ u rest. parse_word b rest) given)

pub same_more : (a b left rest : List Bool) → parse_word a left ≡ Read tt rest → parse_word (a ++ b) left ≡ parse_word b rest
same_more a b left rest read = parse_word-append a b left ∙ rw read refl

-- ---- one bit after another

pub parse_word-none : (bits : List Bool) → parse_word [] bits ≡ Read tt bits
unfolding parse_word
parse_word-none bits = refl

pub parse_word-more : (bit found : Bool) (word bits rest : List Bool) → bit_where (allowed (not bit) bit) bits ≡ Read found rest → parse_word (bit ∷ word) bits ≡ parse_word word rest
unfolding parse_word
parse_word-more bit found word bits rest read = rw read refl

pub parse_word-fault : (bit : Bool) (word : List Bool) (old new : EyeState) (fault : BitFault) → Gives (λ (found : Bool). found) (Err fault) new (bit_where (allowed (not bit) bit) (bits_left old))
    → Gives (λ (u : Unit {0}). tt) (Err fault) new (parse_word (bit ∷ word) (bits_left old))
unfolding parse_word
parse_word-fault bit word old new fault given =
    Gives-then_err (λ (found : Bool). found) (λ (u : Unit {0}). tt) fault new (bit_where (allowed (not bit) bit) (bits_left old)) (λ found rest. parse_word word rest) given

-- ---- exact

right_bit : (wanted : Bool) → allowed (not wanted) wanted wanted ≡ true
right_bit true = refl
right_bit false = refl

only_bit : (wanted bit : Bool) → allowed (not wanted) wanted bit ≡ true → bit ≡ wanted
only_bit true true e = refl
only_bit true false e = absurd cc
only_bit false true e = absurd cc
only_bit false false e = refl

pub IsExact-same_at : (word : List Bool) → IsExact (λ (u : Unit {0}) (w : List Bool). w ≡ word) (parse_word word)
unfolding parse_word
IsExact-same_at [] =
    IsExact-same (λ (u : Unit {0}) (w : List Bool). (u ≡ tt) × (w ≡ [])) (λ (u : Unit {0}) (w : List Bool). w ≡ []) (parse_word []) (λ u w h. h.1) (λ u w h. (refl, h)) (IsExact-give tt)
IsExact-same_at (wanted ∷ word) =
    IsExact-same (IsWordThen (IsBitWhere (allowed (not wanted) wanted)) (λ (bit : Bool) (u : Unit {0}) (w : List Bool). w ≡ word)) (λ (u : Unit {0}) (w : List Bool). w ≡ wanted ∷ word) (parse_word (wanted ∷ word))
    (λ u w h. h.5 ∙ rw (h.3.1, h.4, only_bit wanted h.0 h.3.0) refl)
    (λ u w h. (wanted, wanted ∷ [], word, (right_bit wanted, refl), refl, h))
    (IsExact-then (IsBitWhere (allowed (not wanted) wanted)) (λ (bit : Bool) (u : Unit {0}) (w : List Bool). w ≡ word) (bit_where (allowed (not wanted) wanted)) (λ (bit : Bool) (rest : List Bool). parse_word word rest)
    (IsExact-bit_where (allowed (not wanted) wanted) wanted (right_bit wanted))
    (λ bit w h. IsExact-same_at word)
    (λ bit w h. (tt, word, refl)))

-- ---- what follows from a reading

pub matched : (word : List Bool) (old new : EyeState) (result : Result (Unit {0}) BitFault) → Gives (λ (u : Unit {0}). tt) result new (parse_word word (bits_left old)) → OnOk result (bits_left old ≡ word ++ bits_left new)
matched word old new (Ok u) given =
    let r = (IsExact-same_at word).read_is (bits_left old) tt (bits_left new) given in
    r.2 ∙ ap (λ (w : List Bool). w ++ bits_left new) r.1
matched word old new (Err fault) given = tt

pub matched_only : (word : List Bool) (old new : EyeState) (result : Result (Unit {0}) BitFault) → Gives (λ (u : Unit {0}). tt) result new (parse_word word (bits_left old)) → (rest : List Bool) → bits_left old ≡ word ++ rest → IsOk result
matched_only word old new result given rest parts =
    (only_read tt tt rest new result (parse_word word (bits_left old)) given (ap (parse_word word) parts ∙ (IsExact-same_at word).reads tt word rest refl)).0

first_fault_same : (W U : List Bool → Type 0) → ((word : List Bool) → W word → U word) → ((word : List Bool) → U word → W word) → (old new : EyeState) (fault : BitFault) → IsFirstFault W old new fault → IsFirstFault U old new fault
first_fault_same W U to from old new (Wrong bit) h = record {
  inside = h.inside;
  after = h.after;
  hopeful = (h.hopeful.0, to (take (bit - old.place) (bits_left old) ++ h.hopeful.0) h.hopeful.1);
  hopeless = λ can. h.hopeless (can.0, from (take (bit + 1 - old.place) (bits_left old) ++ can.0) can.1);
}
first_fault_same W U to from old new (EndsEarly bit) h = record {
  all = h.all;
  at_end = h.at_end;
  hopeful = (h.hopeful.0, to (bits_left old ++ h.hopeful.0) h.hopeful.1);
  incomplete = λ word rest u. h.incomplete word rest (from word u);
}

pub matched_fault : (word : List Bool) (old new : EyeState) (result : Result (Unit {0}) BitFault) → MovesOn old new → Gives (λ (u : Unit {0}). tt) result new (parse_word word (bits_left old)) → IfErr result (λ fault. IsFirstFault (λ w. w ≡ word) old new fault)
matched_fault word old new (Ok u) moves given = tt
matched_fault word old new (Err fault) moves given =
    first_fault_same (λ (w : List Bool). (u : Unit {0}) × (w ≡ word)) (λ (w : List Bool). w ≡ word) (λ w h. h.1) (λ w h. (tt, h)) old new fault
    (fault_by (λ (u : Unit {0}) (w : List Bool). w ≡ word) (parse_word word) (IsExact-same_at word) (λ (u : Unit {0}). tt) old new (Err fault) moves given)
