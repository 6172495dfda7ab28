-- Places that move, word by word.
use Rattle.std.proofs.Common.{◌≡◌, ◌≢◌, ℕ, ◌+◌, ◌-◌, ◌*◌, ◌/◌, ◌%◌, ◌^◌, ◌<◌, ◌≤◌, Bool, true, false, cond, eqb, List, length, replicate, get_or, bit_and, bit_xor, refl, sym, ap, subst, ◌∙◌, arith, inl, inr, eq-eqb, ne_eqb}
use Rattle.std.specs.Prelude.{IsTrue, nat_le, nat_lt, not, ◌&&◌, ◌||◌, ◌↔◌, Contains}
use Rattle.std.specs.Int.{bit_at, bit_not, trailing_zeros, w64}
use Rattle.std.proofs.Math.Bool.{and-false, or-false, or-true, or_assoc}
use Rattle.std.proofs.lemmas.Bool.{and_from, and_parts, cases_lt, cases_eq, le-leb, lt-leb, lt-ltb, le-ltb, false≢true}
use Rattle.std.proofs.lemmas.List.{ext_get_or, get_or_default, get_or_past, length-replicate}
use Rattle.std.proofs.lemmas.List.Elements.{Contains-get_or}
use Rattle.std.proofs.lemmas.Simd.{length-zip2}
use Rattle.std.proofs.lemmas.Nat.Bits.{bit_at-trailing_zeros, bit_at-zero, same_from_bits_below}
use Rattle.std.proofs.lemmas.Nat.{xor_lt}
use Rattle.bit_vectors.specs.Vectors.{NoneIsOne, xor_bits}
use Rattle.bit_vectors.specs.Words.{IsWord, HasNoSpareBit}
use Rattle.bit_vectors.proofs.NumberBits.{zeros_is, same_bit}
use Rattle.bit_vectors.proofs.Lists.{get_or-replicate_same}
use Rattle.bit_vectors.proofs.Places.{get_or-zip2_all, zip2_is}
use Rattle.bit_vectors.proofs.WordBits.{Bitwise, Bitwise-drop, Bitwise-xor}
use Rattle.mask_update.specs.Masks.{Advances, HaveMoved, Running, Walked, moves_in}

-- ---- bits

pub xor_none : (bit : Bool) → cond bit (not false) false ≡ bit
xor_none true = refl
xor_none false = refl

-- ---- one word

-- the places at which the word with this number is 1
abbrev pub in_word : ℕ → ℕ → ℕ → Bool
in_word index word place = eqb (place / 64) index && eqb (bit_at word (63 - place % 64)) 1

pub zero_from : (word i : ℕ) → eqb (bit_at word i) 1 ≡ false → bit_at word i ≡ 0
zero_from word i none = same_bit word i 0 0 (none ∙ sym (ap (λ (bit : ℕ). eqb bit 1) (bit_at-zero 0))) ∙ bit_at-zero 0

pub IsWord-spare : (v : List Bool) (index word : ℕ) → IsWord v index word → HasNoSpareBit (length v) index word
IsWord-spare v index word is k lt past = zero_from word (63 - k) (is k lt ∙ get_or_past v (64 * index + k) false past)

-- an operation on words that is one on each pair of bits
module _ (op : ℕ → ℕ → ℕ) (f : Bool → Bool → Bool) (bitwise : Bitwise op f) (index a b : ℕ) (below : b < 2 ^ 64) where
  pub op_spare : (places : ℕ) → HasNoSpareBit places index a → HasNoSpareBit places index b → HasNoSpareBit places index (op a b)
  op_spare places a_spare b_spare k lt past =
      zero_from (op a b) (63 - k) (bitwise.bits a b (63 - k) below (omega arith) ∙ rw (a_spare k lt past, b_spare k lt past) bitwise.none)

  -- of a vector in which one word was written
  pub word_written : (old new : List Bool) → ((bit : Bool) → f bit false ≡ bit) → IsWord old index a → IsWord new index (op a b) → ((k : ℕ) → k / 64 ≢ index → get_or new k false ≡ get_or old k false) → (place : ℕ) → get_or new place false ≡ f (get_or old place false) (in_word index b place)
  word_written old new same was is others place =
      elim (cases_eq (place / 64) index) [
        | inl here ↦
            let at : 64 * index + place % 64 ≡ place = omega arith in
            let old_bit : eqb (bit_at a (63 - place % 64)) 1 ≡ get_or old place false = was (place % 64) (omega arith) ∙ ap (λ (p : ℕ). get_or old p false) at in
            ap (λ (p : ℕ). get_or new p false) (sym at) ∙ sym (is (place % 64) (omega arith)) ∙ bitwise.bits a b (63 - place % 64) below (omega arith)
            ∙ rw (old_bit, eq-eqb (place / 64) index here) refl
        | inr other ↦ others place other ∙ rw (ne_eqb (place / 64) index other) (sym (same (get_or old place false)))
      ]

-- the places of a word that are not in the mask
pub fresh_there : (v : List Bool) (index mask moved : ℕ) → mask < 2 ^ 64 → IsWord v index mask → (place : ℕ) → in_word index (bit_and moved (bit_not w64 mask)) place ≡ (in_word index moved place && not (get_or v place false))
fresh_there v index mask moved below is place =
    elim (cases_eq (place / 64) index) [
      | inl here ↦
          let at : 64 * index + place % 64 ≡ place = omega arith in
          let bit : eqb (bit_at mask (63 - place % 64)) 1 ≡ get_or v place false = is (place % 64) (omega arith) ∙ ap (λ (p : ℕ). get_or v p false) at in
          rw (eq-eqb (place / 64) index here) (Bitwise-drop.bits moved mask (63 - place % 64) below (omega arith) ∙ ap (λ (b : Bool). eqb (bit_at moved (63 - place % 64)) 1 && not b) bit)
      | inr other ↦ rw (ne_eqb (place / 64) index other) refl
    ]

-- ---- whether a vector has a 1 after one word was written

in_word-none : (index place : ℕ) → in_word index 0 place ≡ false
in_word-none index place = rw (bit_at-zero (63 - place % 64)) (and-false (eqb (place / 64) index))

pub zeros_written : (old new : List Bool) (index word f : ℕ) → old ≡ replicate f false → word ≡ 0 → ((place : ℕ) → get_or new place false ≡ (get_or old place false || in_word index word place)) → length new ≡ f → new ≡ replicate f false
zeros_written old new index word f zeros none written len =
    zeros_is new (λ k. written k ∙ rw (none, in_word-none index k, zeros, get_or-replicate_same f k false) refl) ∙ ap (λ (n : ℕ). replicate n false) len

Contains-one : (v : List Bool) (k : ℕ) → get_or v k false ≡ true → Contains v true
Contains-one v k one =
    elim (cases_lt k (length v)) [
      | inl within ↦ subst (Contains v) one (Contains-get_or v k false within)
      | inr past ↦ absurd (false≢true (sym (get_or_past v k false past) ∙ one))
    ]

pub Contains-kept : (old new : List Bool) (more : ℕ → Bool) → Contains old true → ((place : ℕ) → get_or new place false ≡ (get_or old place false || more place)) → Contains new true
Contains-kept old new more one kept =
    let was : get_or old one.0 false ≡ true = get_or_default old one.0 false true one.1 ∙ one.2 in
    Contains-one new one.0 (kept one.0 ∙ rw was refl)

pub some_written : (old new : List Bool) (index word : ℕ) → word < 2 ^ 64 → (word ≡ 0 → ⊥) → ((place : ℕ) → get_or new place false ≡ (get_or old place false || in_word index word place)) → Contains new true
some_written old new index word below some written =
    let lowest = bit_at-trailing_zeros w64 word (omega (arith, some)) below in
    let t = trailing_zeros w64 word in
    let place = 64 * index + (63 - t) in
    let here : place / 64 ≡ index = omega (arith, lowest.0) in
    let weight : 63 - place % 64 ≡ t = omega (arith, lowest.0) in
    Contains-one new place (written place ∙ rw (eq-eqb (place / 64) index here, weight, lowest.1) (or-true (get_or old place false)))

-- ---- no, the same, and further places

HaveMoved-none : (p : ℕ → Bool) (value : Running) → ((k : ℕ) → p k ≡ false) → HaveMoved p value value
HaveMoved-none p value none = record {
  previous = λ k. rw (none k) (sym (xor_none (get_or value.previous k false)));
  build = λ k. rw (none k) (sym (or-false (get_or value.build k false)));
  mask = λ k. rw (none k) (sym (or-false (get_or value.mask k false)));
  change = λ k. rw (none k) (sym (or-false (get_or value.change k false)));
  previous_len = refl;
  build_len = refl;
  mask_len = refl;
  change_len = refl;
  taken = refl;
}

HaveMoved-same : (p q : ℕ → Bool) (old new : Running) → ((k : ℕ) → p k ≡ q k) → HaveMoved p old new → HaveMoved q old new
HaveMoved-same p q old new same h = record {
  previous = λ k. h.previous k ∙ ap (λ (b : Bool). cond (get_or old.previous k false) (not b) b) (same k);
  build = λ k. h.build k ∙ ap (λ (b : Bool). get_or old.build k false || b) (same k);
  mask = λ k. h.mask k ∙ ap (λ (b : Bool). get_or old.mask k false || b) (same k);
  change = λ k. h.change k ∙ ap (λ (b : Bool). get_or old.change k false || (b && not (get_or old.mask k false))) (same k);
  previous_len = h.previous_len;
  build_len = h.build_len;
  mask_len = h.mask_len;
  change_len = h.change_len;
  taken = h.taken;
}

xor_apart : (bit p q : Bool) → (p && q) ≡ false → cond (cond bit (not p) p) (not q) q ≡ cond bit (not (p || q)) (p || q)
xor_apart bit true true apart = absurd cc
xor_apart true true false apart = refl
xor_apart true false true apart = refl
xor_apart true false false apart = refl
xor_apart false true false apart = refl
xor_apart false false true apart = refl
xor_apart false false false apart = refl

change_both : (bit p q mask : Bool) → ((bit || (p && not mask)) || (q && not (mask || p))) ≡ (bit || ((p || q) && not mask))
change_both true p q mask = refl
change_both false true true true = refl
change_both false true true false = refl
change_both false true false true = refl
change_both false true false false = refl
change_both false false q true = refl
change_both false false q false = refl

-- some places, and then others
HaveMoved-then : (p q r : ℕ → Bool) (old mid new : Running) → ((k : ℕ) → (r k ≡ (p k || q k)) × ((p k && q k) ≡ false)) → HaveMoved p old mid → HaveMoved q mid new → HaveMoved r old new
HaveMoved-then p q r old mid new parts h g =
    HaveMoved-same (λ k. p k || q k) r old new (λ k. sym (parts k).0) (record {
      previous = λ k. g.previous k ∙ rw (h.previous k) (xor_apart (get_or old.previous k false) (p k) (q k) (parts k).1);
      build = λ k. g.build k ∙ rw (h.build k) (or_assoc (get_or old.build k false) (p k) (q k));
      mask = λ k. g.mask k ∙ rw (h.mask k) (or_assoc (get_or old.mask k false) (p k) (q k));
      change = λ k. g.change k ∙ rw (h.change k, h.mask k) (change_both (get_or old.change k false) (p k) (q k) (get_or old.mask k false));
      previous_len = g.previous_len ∙ h.previous_len;
      build_len = g.build_len ∙ h.build_len;
      mask_len = g.mask_len ∙ h.mask_len;
      change_len = g.change_len ∙ h.change_len;
      taken = g.taken ∙ h.taken;
    })

-- ---- the places of some words

moves_in-parts : (moved : List Bool) (from mid to : ℕ) → from ≤ mid → mid ≤ to → (k : ℕ) → (moves_in moved from to k ≡ (moves_in moved from mid k || moves_in moved mid to k)) × ((moves_in moved from mid k && moves_in moved mid to k) ≡ false)
moves_in-parts moved from mid to le_mid le_to k =
    elim (cases_lt (k / 64) mid) [
      | inl below ↦ rw (lt-ltb (k / 64) mid below, lt-leb mid (k / 64) below, lt-ltb (k / 64) to (omega arith)) (sym (or-false (nat_le from (k / 64) && get_or moved k false)), and-false (nat_le from (k / 64) && get_or moved k false))
      | inr above ↦ rw (le-ltb (k / 64) mid above, le-leb mid (k / 64) above, le-leb from (k / 64) (omega arith)) (refl, refl)
    ]

-- no place of the words has moved
pub Walked-none : (input : List Bool) (from to : ℕ) (value : Running) → NoneIsOne (xor_bits value.previous input) (64 * from) (64 * to) → Walked input from to true value value
Walked-none input from to value none = record {
  moved = HaveMoved-none _ value (λ k. elim (cases_lt (k / 64) from) [
    | inl below ↦ rw (lt-leb from (k / 64) below) refl
    | inr above ↦ elim (cases_lt (k / 64) to) [
      | inl within ↦ rw (none k (omega arith) (omega arith), lt-ltb (k / 64) to within) (and-false (nat_le from (k / 64)))
      | inr past ↦ rw (le-ltb (k / 64) to past) (and-false (nat_le from (k / 64)))
    ]
  ]);
  same = (λ _. none, λ _. refl);
}

-- The places of the words from a number on move by what the previous input still is there.
module _ (input : List Bool) (from mid : ℕ) (before : Bool) (old value : Running) (h : Walked input from mid before old value) (len : length old.previous ≡ length input) where
  still_moved : (k : ℕ) → mid ≤ k / 64 → get_or (xor_bits value.previous input) k false ≡ get_or (xor_bits old.previous input) k false
  still_moved k above =
      let out : moves_in (xor_bits old.previous input) from mid k ≡ false = rw (le-ltb (k / 64) mid above) (and-false (nat_le from (k / 64))) in
      let same : get_or value.previous k false ≡ get_or old.previous k false = h.moved.previous k ∙ rw out (xor_none (get_or old.previous k false)) in
      get_or-zip2_all _ refl value.previous input k (h.moved.previous_len ∙ len) ∙ rw same refl ∙ sym (get_or-zip2_all _ refl old.previous input k len)

  -- further words
  pub Walked-then : (new : Running) (to : ℕ) (here : Bool) → from ≤ mid → mid ≤ to → Walked input mid to here value new → Walked input from to (here && before) old new
  Walked-then new to here le_mid le_to g = record {
    moved =
        HaveMoved-then _ (moves_in (xor_bits old.previous input) mid to) _ old value new (moves_in-parts (xor_bits old.previous input) from mid to le_mid le_to) h.moved
        (HaveMoved-same _ _ value new (λ k. elim (cases_lt (k / 64) mid) [
          | inl below ↦ rw (lt-leb mid (k / 64) below) refl
          | inr above ↦ ap (λ (b : Bool). nat_le mid (k / 64) && (nat_lt (k / 64) to && b)) (still_moved k above)
        ]) g.moved);
    same = (
      λ both k ge lt. let parts = and_parts here before both in elim (cases_lt k (64 * mid)) [
        | inl early ↦ h.same.0 parts.1 k ge early
        | inr late ↦ sym (still_moved k (omega arith)) ∙ g.same.0 parts.0 k late lt
      ],
      λ none. and_from here before (g.same.1 (λ k ge lt. still_moved k (omega arith) ∙ none k (omega arith) lt)) (h.same.1 (λ k ge lt. none k ge (omega arith))),
    );
  }

-- ---- a word of each of two vectors

module _ (value : Running) (w : List Bool) (index a b : ℕ) (len : length value.previous ≡ length w) (v_is : IsWord value.previous index a) (w_is : IsWord w index b) (a_below : a < 2 ^ 64) (b_below : b < 2 ^ 64) where
  pub differ_spare : HasNoSpareBit (length value.previous) index (bit_xor a b)
  differ_spare = op_spare _ _ Bitwise-xor index a b b_below (length value.previous) (IsWord-spare value.previous index a v_is) (rw len (IsWord-spare w index b w_is))

  differ_at : (k : ℕ) → k / 64 ≡ index → eqb (bit_at (bit_xor a b) (63 - k % 64)) 1 ≡ get_or (xor_bits value.previous w) k false
  differ_at k here =
      let at : 64 * index + k % 64 ≡ k = omega arith in
      let v_bit : eqb (bit_at a (63 - k % 64)) 1 ≡ get_or value.previous k false = v_is (k % 64) (omega arith) ∙ ap (λ (p : ℕ). get_or value.previous p false) at in
      let w_bit : eqb (bit_at b (63 - k % 64)) 1 ≡ get_or w k false = w_is (k % 64) (omega arith) ∙ ap (λ (p : ℕ). get_or w p false) at in
      Bitwise-xor.bits a b (63 - k % 64) b_below (omega arith) ∙ rw (v_bit, w_bit) (sym (get_or-zip2_all _ refl value.previous w k len))

  -- the places at which they differ
  differ_there : (k : ℕ) → in_word index (bit_xor a b) k ≡ moves_in (xor_bits value.previous w) index (index + 1) k
  differ_there k =
      elim (cases_eq (k / 64) index) [
        | inl here ↦ rw (eq-eqb (k / 64) index here, le-leb index (k / 64) (omega arith), lt-ltb (k / 64) (index + 1) (omega arith)) (differ_at k here)
        | inr other ↦ elim (cases_lt (k / 64) index) [
          | inl before ↦ rw (ne_eqb (k / 64) index other, lt-leb index (k / 64) before) refl
          | inr after ↦ rw (ne_eqb (k / 64) index other, le-ltb (k / 64) (index + 1) (omega arith)) (sym (and-false (nat_le index (k / 64))))
        ]
      ]

  -- none exactly if the words differ in no bit
  pub none_differ : bit_xor a b ≡ 0 → NoneIsOne (xor_bits value.previous w) (64 * index) (64 * (index + 1))
  none_differ none k from to = sym (differ_at k (omega arith)) ∙ rw (none, bit_at-zero (63 - k % 64)) refl

  pub no_difference : NoneIsOne (xor_bits value.previous w) (64 * index) (64 * (index + 1)) → bit_xor a b ≡ 0
  no_difference none =
      same_from_bits_below 64 (bit_xor a b) 0 (xor_lt 64 a b a_below b_below) (omega arith) (λ i lt.
      let k = 64 * index + (63 - i) in
      let weight : 63 - k % 64 ≡ i = omega arith in
      zero_from (bit_xor a b) i (rw weight at (differ_at k (omega arith)) ∙ none k (omega arith) (omega arith)) ∙ sym (bit_at-zero i))

  -- the places at which they differ have moved, and there is one
  pub Walked-word : (new : Running) → bit_xor a b ≢ 0 → HaveMoved (in_word index (bit_xor a b)) value new → Walked w index (index + 1) false value new
  Walked-word new some moved = record {
    moved = HaveMoved-same _ _ value new differ_there moved;
    same = (λ is. absurd (false≢true is), λ none. absurd (some (no_difference none)));
  }

-- ---- all places

xor_back : (bit c : Bool) → cond bit (not (cond bit (not c) c)) (cond bit (not c) c) ≡ c
xor_back true true = refl
xor_back true false = refl
xor_back false true = refl
xor_back false false = refl

xor_same : (a b : Bool) → cond a (not b) b ≡ false → a ≡ b
xor_same true true none = refl
xor_same false false none = refl
xor_same true false none = absurd cc
xor_same false true none = absurd cc

xor_self : (bit : Bool) → cond bit (not bit) bit ≡ false
xor_self true = refl
xor_self false = refl

fresh_change : (mask moves : Bool) → (false || (moves && not mask)) ≡ cond mask (not (mask || moves)) (mask || moves)
fresh_change true true = refl
fresh_change true false = refl
fresh_change false true = refl
fresh_change false false = refl

module _ (input : List Bool) (count : ℕ) (none : Bool) (old new : Running) (h : Walked input 0 count none old new) (len : length old.previous ≡ length input) (most : length input ≤ 64 * count) where
  abbrev moved : List Bool
  moved = xor_bits old.previous input

  moved_len : length moved ≡ length input
  moved_len = length-zip2 _ old.previous input len ∙ len

  all : HaveMoved (λ k. get_or moved k false) old new
  all = HaveMoved-same _ _ old new (λ k. elim (cases_lt (k / 64) count) [
    | inl within ↦ rw (le-leb 0 (k / 64) (omega arith), lt-ltb (k / 64) count within) refl
    | inr past ↦ rw (le-leb 0 (k / 64) (omega arith), le-ltb (k / 64) count past) (sym (get_or_past moved k false (omega (arith, moved_len))))
  ]) h.moved

  pub Walked-same : IsTrue none ↔ (old.previous ≡ input)
  Walked-same = (
    λ is. ext_get_or false old.previous input len (λ k lt. xor_same _ _ (sym (get_or-zip2_all _ refl old.previous input k len) ∙ h.same.0 is k (omega arith) (omega arith))),
    λ same. h.same.1 (λ k ge lt. get_or-zip2_all _ refl old.previous input k len ∙ rw same (xor_self (get_or input k false))),
  )

  pub Walked-all : length old.mask ≡ length input → length old.build ≡ length input → old.change ≡ replicate (length old.mask) false → Advances input false old new
  Walked-all places build_len zeros = record {
    build = zip2_is _ old.build moved new.build (build_len ∙ sym moved_len) all.build_len (λ k lt. all.build k);
    mask = zip2_is _ old.mask moved new.mask (places ∙ sym moved_len) all.mask_len (λ k lt. all.mask k);
    change =
        zip2_is _ old.mask new.mask new.change (sym all.mask_len) (all.change_len ∙ ap length zeros ∙ length-replicate (length old.mask) false)
        (λ k lt.
        let was : get_or old.change k false ≡ false = ap (λ (v : List Bool). get_or v k false) zeros ∙ get_or-replicate_same (length old.mask) k false in
        all.change k ∙ rw (was, all.mask k) (fresh_change (get_or old.mask k false) (get_or moved k false)));
    previous = ext_get_or false new.previous input (all.previous_len ∙ len) (λ k lt. all.previous k ∙ rw (get_or-zip2_all _ refl old.previous input k len) (xor_back (get_or old.previous k false) (get_or input k false)));
    places = all.mask_len;
    taken = all.taken;
  }
