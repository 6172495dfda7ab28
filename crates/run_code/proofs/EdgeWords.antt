-- Edges, place by place and by words of 64 bits.
use Rattle.std.specs.Int.{bit_at}
use Rattle.std.specs.Prelude.{not}
use Rattle.std.proofs.Common.{◌≡◌, ℕ, ◌+◌, ◌<◌, ◌≤◌, Bool, true, false, cond, List, [], ◌∷◌, ◌++◌, length, get_or, drop, suc, refl, sym, ap, ◌∙◌, arith, ◌≢◌, zero, ◌-◌, ◌*◌, ◌/◌, ◌%◌, ◌^◌, eqb, bit_xor, subst, inl, inr}
use Rattle.std.proofs.lemmas.Bool.{cases_lt, cases_eq}
use Rattle.std.proofs.lemmas.List.{length-append, length-drop, get_or-drop, get_or_past}
use Rattle.std.proofs.lemmas.Nat.{xor_lt, mod_below, pow_pos}
use Rattle.std.proofs.lemmas.Nat.Bits.{bit_at_xor, bit_at-lt, bit_at-zero, bit_at_ones, bit_at_cat_low, bit_at_cat_high, bit_at_lowest, same_from_bits_below}
use Rattle.bit_vectors.specs.Words.{IsWord, HasNoSpareBit}
use Rattle.bit_vectors.proofs.NumberBits.{get_or-append-zeros, bit_at_mod, bit_at_shl, bit_at_shl_low}
use Rattle.bit_vectors.proofs.Places.{get_or-zip2, zip2_is}
use Rattle.bit_vectors.proofs.WordBits.{xor_digits}
use Rattle.bit_vectors.proofs.WordBytes.{shl_word}
use Rattle.run_code.specs.Runs.{edges}

-- ---- edges place by place

-- exactly one of the two
abbrev pub xor : Bool → Bool → Bool
xor a b = cond a (not b) b

pub xor-xor : (a b : Bool) → xor (xor a b) a ≡ b
xor-xor true true = refl
xor-xor true false = refl
xor-xor false true = refl
xor-xor false false = refl

get_or-next : (mask : List Bool) (k : ℕ) → get_or (drop 1 mask ++ false ∷ []) k false ≡ get_or mask (k + 1) false
get_or-next mask k =
    let place : 1 + k ≡ k + 1 = omega arith in
    get_or-append-zeros (drop 1 mask) 1 k ∙ rw place at (get_or-drop 1 mask k false)

length-next : (mask : List Bool) → 1 ≤ length mask → length mask ≡ length (drop 1 mask ++ false ∷ [])
length-next mask some = omega (arith, length-append (drop 1 mask) (false ∷ []), length-drop 1 mask)

pub get_or-edges : (mask : List Bool) (k : ℕ) → k < length mask → get_or (edges mask) k false ≡ xor (get_or mask k false) (get_or mask (k + 1) false)
get_or-edges mask k lt = rw (get_or-next mask k) at (get_or-zip2 xor mask (drop 1 mask ++ false ∷ []) k (length-next mask (omega arith)) lt)

pub edges_are : (mask new : List Bool) → 1 ≤ length mask → length new ≡ length mask → ((k : ℕ) → k < length mask → get_or new k false ≡ xor (get_or mask k false) (get_or mask (k + 1) false)) → new ≡ edges mask
edges_are mask new some len same =
    zip2_is xor mask (drop 1 mask ++ false ∷ []) new (length-next mask some) len (λ k lt. rw (get_or-next mask k) (same k lt))

-- ---- from edges back to the mask

edges-cons : (bit : Bool) (mask : List Bool) → edges (bit ∷ mask) ≡ xor bit (get_or mask 0 false) ∷ edges mask
edges-cons bit [] = refl
edges-cons bit (next ∷ mask) = refl

mask_of : List Bool → List Bool
mask_of [] = []
mask_of (edge ∷ edges) = xor (get_or (mask_of edges) 0 false) edge ∷ mask_of edges

edges-mask_of : (v : List Bool) → edges (mask_of v) ≡ v
unfolding mask_of
edges-mask_of [] = refl
edges-mask_of (edge ∷ v) =
    edges-cons (xor (get_or (mask_of v) 0 false) edge) (mask_of v) ∙ rw (xor-xor (get_or (mask_of v) 0 false) edge, edges-mask_of v) refl

length-mask_of : (v : List Bool) → length (mask_of v) ≡ length v
unfolding mask_of
length-mask_of [] = refl
length-mask_of (edge ∷ v) = ap suc (length-mask_of v)

pub a_mask : (v : List Bool) → (mask : List Bool) × (length mask ≡ length v) × (edges mask ≡ v)
a_mask v = (mask_of v, length-mask_of v, edges-mask_of v)

xor_same : (a b c : Bool) → xor a c ≡ xor b c → a ≡ b
xor_same true true c e = refl
xor_same true false true e = absurd cc
xor_same true false false e = absurd cc
xor_same false true true e = absurd cc
xor_same false true false e = absurd cc
xor_same false false c e = refl

heads : (x y : Bool) (a b : List Bool) → x ∷ a ≡ y ∷ b → (x ≡ y) × (a ≡ b)
heads x y a b e = (cc, cc)

pub one_mask : (a b : List Bool) → edges a ≡ edges b → a ≡ b
one_mask [] [] e = refl
one_mask [] (y ∷ b) e = let no : [] ≡ xor y (get_or b 0 false) ∷ edges b = e ∙ edges-cons y b in absurd cc
one_mask (x ∷ a) [] e = let no : xor x (get_or a 0 false) ∷ edges a ≡ [] = sym (edges-cons x a) ∙ e in absurd cc
one_mask (x ∷ a) (y ∷ b) e =
    let same = heads (xor x (get_or a 0 false)) (xor y (get_or b 0 false)) (edges a) (edges b) (sym (edges-cons x a) ∙ e ∙ edges-cons y b) in
    let rest : a ≡ b = one_mask a b same.1 in
    let first : x ≡ y = xor_same x y (get_or b 0 false) (rw rest at same.0) in
    rw (first, rest) refl

-- ---- a word added to itself shifted

-- without carries, in 64 bits
abbrev pub plus : ℕ → ℕ → ℕ
plus s n = bit_xor n (n * 2 ^ s % 2 ^ 64)

pub plus_low : (s n i : ℕ) → i < s → i < 64 → bit_at (plus s n) i ≡ bit_at n i
plus_low s n i low lt =
    let none : bit_at (n * 2 ^ s % 2 ^ 64) i ≡ 0 = bit_at_mod (n * 2 ^ s) 64 i lt ∙ bit_at_shl_low n s i low in
    bit_at_xor n (n * 2 ^ s % 2 ^ 64) i ∙ omega (arith, bit_at-lt n i)

pub plus_high : (s n i : ℕ) → s ≤ i → i < 64 → bit_at (plus s n) i ≡ (bit_at n i + bit_at n (i - s)) % 2
plus_high s n i high lt =
    bit_at_xor n (n * 2 ^ s % 2 ^ 64) i ∙ rw (bit_at_mod (n * 2 ^ s) 64 i lt, bit_at_shl n s i high) refl

pub plus_below : (s n : ℕ) → n < 2 ^ 64 → plus s n < 2 ^ 64
plus_below s n lt = xor_lt 64 n (n * 2 ^ s % 2 ^ 64) lt (mod_below (n * 2 ^ s) (2 ^ 64) (pow_pos 64))

-- twice by one distance is once by double the distance
plus_twice : (s n : ℕ) → n < 2 ^ 64 → plus s (plus s n) ≡ plus (s + s) n
plus_twice s n lt =
    same_from_bits_below 64 (plus s (plus s n)) (plus (s + s) n) (plus_below s (plus s n) (plus_below s n lt)) (plus_below (s + s) n lt) (λ i i_lt.
    elim (cases_lt i s) [
      | inl low ↦ plus_low s (plus s n) i low i_lt ∙ plus_low s n i low i_lt ∙ sym (plus_low (s + s) n i (omega arith) i_lt)
      | inr high ↦ plus_high s (plus s n) i high i_lt ∙ elim (cases_lt (i - s) s) [
        | inl middle ↦ rw (plus_high s n i high i_lt, plus_low s n (i - s) middle (omega arith), plus_low (s + s) n i (omega arith) i_lt) (omega (arith, bit_at-lt n i, bit_at-lt n (i - s)))
        | inr far ↦
            let place : i - s - s ≡ i - (s + s) = omega arith in
            rw (plus_high s n i high i_lt, plus_high s n (i - s) far (omega arith), plus_high (s + s) n i (omega arith) i_lt, place) (omega (arith, bit_at-lt n i, bit_at-lt n (i - s), bit_at-lt n (i - (s + s))))
      ]
    ])

plus_all : (n : ℕ) → n < 2 ^ 64 → plus 64 n ≡ n
plus_all n lt =
    same_from_bits_below 64 (plus 64 n) n (plus_below 64 n lt) lt (λ i i_lt. plus_low 64 n i i_lt i_lt)

pub summed_by : (n a b c d e f : ℕ) → n < 2 ^ 64 → a ≡ plus 32 n → b ≡ plus 16 a → c ≡ plus 8 b → d ≡ plus 4 c → e ≡ plus 2 d → f ≡ plus 1 e → plus 1 f ≡ n
summed_by n a b c d e f lt a_is b_is c_is d_is e_is f_is =
    let a_lt : a < 2 ^ 64 = rw a_is (plus_below 32 n lt) in
    let b_lt : b < 2 ^ 64 = rw b_is (plus_below 16 a a_lt) in
    let c_lt : c < 2 ^ 64 = rw c_is (plus_below 8 b b_lt) in
    let d_lt : d < 2 ^ 64 = rw d_is (plus_below 4 c c_lt) in
    let e_lt : e < 2 ^ 64 = rw e_is (plus_below 2 d d_lt) in
    ap (plus 1) f_is ∙ plus_twice 1 e e_lt ∙ ap (plus 2) e_is ∙ plus_twice 2 d d_lt ∙ ap (plus 4) d_is ∙ plus_twice 4 c c_lt ∙ ap (plus 8) c_is ∙ plus_twice 8 b b_lt ∙ ap (plus 16) b_is ∙ plus_twice 16 a a_lt
    ∙ ap (plus 32) a_is ∙ plus_twice 32 n lt ∙ plus_all n lt

-- ---- the edges of a word

-- the bit of the next place: of a smaller weight in the word, or the bit that follows the word
abbrev pub next_bit : ℕ → ℕ → ℕ → ℕ
next_bit w next zero = next
next_bit w next (suc i) = bit_at w i

-- each bit and the next one
abbrev pub AreEdges : ℕ → ℕ → ℕ → Type 0
AreEdges w next e = (i : ℕ) → i < 64 → bit_at e i ≡ (bit_at w i + next_bit w next i) % 2

shifted_bit : (w next i : ℕ) → next < 2 → i < 64 → bit_at (w * 2 ^ 1 % 2 ^ 64 + next) i ≡ next_bit w next i
shifted_bit w next zero next_lt lt =
    rw (shl_word w 1 (omega arith)) (bit_at_cat_low (w % 2 ^ 63) 1 next 0 (omega arith) ∙ bit_at_lowest next ∙ omega arith)
shifted_bit w next (suc i) next_lt lt =
    let before : suc i - 1 ≡ i = omega arith in
    rw (shl_word w 1 (omega arith)) (bit_at_cat_high (w % 2 ^ 63) 1 next (suc i) next_lt (omega arith) ∙ rw before (bit_at_mod w 63 i (omega arith)))

edge_word : (w next : ℕ) → next < 2 → AreEdges w next (bit_xor w (w * 2 ^ 1 % 2 ^ 64 + next))
edge_word w next next_lt i lt = bit_at_xor w (w * 2 ^ 1 % 2 ^ 64 + next) i ∙ rw (shifted_bit w next i next_lt lt) refl

-- all bits of y inverted if the next bit is 1
flipped : (y next i : ℕ) → next < 2 → i < 64 → bit_at (bit_xor y (18446744073709551615 * next)) i ≡ (bit_at y i + next) % 2
flipped y zero i next_lt lt = bit_at_xor y 0 i ∙ rw (bit_at-zero i) refl
flipped y (suc zero) i next_lt lt = bit_at_xor y 18446744073709551615 i ∙ rw (bit_at_ones 64 i lt) refl
flipped y (suc (suc next)) i next_lt lt = absurd (omega arith)

pub AreEdges-summed : (y next w : ℕ) → next < 2 → plus 1 y ≡ w → AreEdges (bit_xor y (18446744073709551615 * next)) next w
AreEdges-summed y next w next_lt summed zero lt =
    ap (λ (n : ℕ). bit_at n 0) (sym summed) ∙ plus_low 1 y 0 (omega arith) lt ∙ rw (flipped y next 0 next_lt lt) (omega (arith, bit_at-lt y 0))
AreEdges-summed y next w next_lt summed (suc i) lt =
    let before : suc i - 1 ≡ i = omega arith in
    ap (λ (n : ℕ). bit_at n (suc i)) (sym summed) ∙ plus_high 1 y (suc i) (omega arith) lt ∙ rw (before, flipped y next (suc i) next_lt lt, flipped y next i next_lt (omega arith)) (omega (arith, bit_at-lt y (suc i), bit_at-lt y i))

pub summed_below : (y next : ℕ) → next < 2 → y < 2 ^ 64 → bit_xor y (18446744073709551615 * next) < 2 ^ 64
summed_below y next next_lt lt = xor_lt 64 y (18446744073709551615 * next) lt (omega arith)

-- ---- the words of a vector and of its edges

next_bit-lt : (w next i : ℕ) → next < 2 → next_bit w next i < 2
next_bit-lt w next zero lt = lt
next_bit-lt w next (suc i) lt = bit_at-lt w i

next_there : (v : List Bool) (index w next k : ℕ) → IsWord v index w → eqb next 1 ≡ get_or v (64 * (index + 1)) false → k < 64 → eqb (next_bit w next (63 - k)) 1 ≡ get_or v (64 * index + k + 1) false
next_there v index w next k word after lt =
    elim (cases_eq k 63) [
      | inl last ↦
          let none : 63 - k ≡ 0 = omega arith in
          let place : 64 * (index + 1) ≡ 64 * index + k + 1 = omega arith in
          rw none (after ∙ ap (λ (n : ℕ). get_or v n false) place)
      | inr other ↦
          let some : 63 - k ≡ suc (63 - (k + 1)) = omega arith in
          let place : 64 * index + (k + 1) ≡ 64 * index + k + 1 = omega arith in
          rw some (word (k + 1) (omega arith) ∙ ap (λ (n : ℕ). get_or v n false) place)
    ]

-- the edges of a word are those of the vector's places there
pub edges_there : (v : List Bool) (index w next e : ℕ) → IsWord v index w → next < 2 → eqb next 1 ≡ get_or v (64 * (index + 1)) false → AreEdges w next e → (k : ℕ) → k < 64
    → eqb (bit_at e (63 - k)) 1 ≡ xor (get_or v (64 * index + k) false) (get_or v (64 * index + k + 1) false)
edges_there v index w next e word next_lt after edges k lt =
    rw (edges (63 - k) (omega arith)) (xor_digits (bit_at w (63 - k)) (next_bit w next (63 - k)) (bit_at-lt w (63 - k)) (next_bit-lt w next (63 - k) next_lt) ∙ rw (word k lt, next_there v index w next k word after lt) refl)

pub zero_of : (bit : ℕ) → bit < 2 → eqb bit 1 ≡ false → bit ≡ 0
zero_of zero lt e = refl
zero_of (suc zero) lt e = absurd cc
zero_of (suc (suc bit)) lt e = absurd (omega arith)

-- the first place of a word, for the word before it
pub top_bit : (v : List Bool) (index w : ℕ) → IsWord v index w → w < 2 ^ 64 → eqb (w / 2 ^ 63) 1 ≡ get_or v (64 * index) false
top_bit v index w word lt =
    let whole : bit_at w 63 ≡ w / 2 ^ 63 = omega arith in
    let place : 64 * index + 0 ≡ 64 * index = omega arith in
    rw (whole, place) at (word 0 (omega arith))

pub edges_spare : (v : List Bool) (index w next : ℕ) → IsWord v index w → next < 2 → eqb next 1 ≡ get_or v (64 * (index + 1)) false → HasNoSpareBit (length v) index (bit_xor w (w * 2 ^ 1 % 2 ^ 64 + next))
edges_spare v index w next word next_lt after k lt past =
    let e = bit_xor w (w * 2 ^ 1 % 2 ^ 64 + next) in
    let here : get_or v (64 * index + k) false ≡ false = get_or_past v (64 * index + k) false past in
    let there : get_or v (64 * index + k + 1) false ≡ false = get_or_past v (64 * index + k + 1) false (omega arith) in
    zero_of (bit_at (bit_xor w (w * 2 ^ 1 % 2 ^ 64 + next)) (63 - k)) (bit_at-lt (bit_xor w (w * 2 ^ 1 % 2 ^ 64 + next)) (63 - k))
    (edges_there v index w next (bit_xor w (w * 2 ^ 1 % 2 ^ 64 + next)) word next_lt after (edge_word w next next_lt) k lt ∙ rw (here, there) refl)

low_zero : (v next w i : ℕ) → AreEdges v next w → next ≡ 0 → i < 64 → ((j : ℕ) → j ≤ i → bit_at w j ≡ 0) → bit_at v i ≡ 0
low_zero v next w zero edges none lt zeros =
    omega (arith, edges 0 lt, zeros 0 (omega arith), bit_at-lt v 0)
low_zero v next w (suc i) edges none lt zeros =
    let before = low_zero v next w i edges none (omega arith) (λ j le. zeros j (omega arith)) in
    omega (arith, edges (suc i) lt, zeros (suc i) (omega arith), bit_at-lt v (suc i), before)

pub summed_spare : (edges into : List Bool) (index w next v : ℕ) → length into ≡ length edges → IsWord edges index w → next < 2 → eqb next 1 ≡ get_or into (64 * (index + 1)) false → AreEdges v next w → HasNoSpareBit (length into) index v
summed_spare edges into index w next v len word next_lt after are k lt past =
    let none : next ≡ 0 = zero_of next next_lt (after ∙ get_or_past into (64 * (index + 1)) false (omega arith)) in
    low_zero v next w (63 - k) are none (omega arith) (λ j le.
    let back : 63 - (63 - j) ≡ j = omega arith in
    zero_of (bit_at w j) (bit_at-lt w j) (subst (λ (n : ℕ). eqb (bit_at w n) 1 ≡ false) back (word (63 - j) (omega arith) ∙ get_or_past edges (64 * index + (63 - j)) false (omega arith))))

-- ---- one word more, from the last to the first

pub edges_more : (mask old new : List Bool) (index w next : ℕ) → IsWord mask index w → next < 2 → eqb next 1 ≡ get_or mask (64 * (index + 1)) false → IsWord new index (bit_xor w (w * 2 ^ 1 % 2 ^ 64 + next)) → ((k : ℕ) → k / 64 ≢ index → get_or new k false ≡ get_or old k false)
    → ((k : ℕ) → 64 * (index + 1) ≤ k → get_or old k false ≡ xor (get_or mask k false) (get_or mask (k + 1) false)) → (k : ℕ) → 64 * index ≤ k → get_or new k false ≡ xor (get_or mask k false) (get_or mask (k + 1) false)
edges_more mask old new index w next word next_lt after set others done k from =
    elim (cases_eq (k / 64) index) [
      | inl here ↦
          let place : 64 * index + k % 64 ≡ k = omega arith in
          subst (λ (n : ℕ). get_or new n false ≡ xor (get_or mask n false) (get_or mask (n + 1) false)) place
          (sym (set (k % 64) (omega arith)) ∙ edges_there mask index w next (bit_xor w (w * 2 ^ 1 % 2 ^ 64 + next)) word next_lt after (edge_word w next next_lt) (k % 64) (omega arith))
      | inr other ↦ others k other ∙ done k (omega arith)
    ]

pub summed_more : (edges old new : List Bool) (index w next v : ℕ) → IsWord edges index w → next < 2 → eqb next 1 ≡ get_or old (64 * (index + 1)) false → AreEdges v next w → IsWord new index v → ((k : ℕ) → k / 64 ≢ index → get_or new k false ≡ get_or old k false)
    → ((k : ℕ) → 64 * (index + 1) ≤ k → get_or edges k false ≡ xor (get_or old k false) (get_or old (k + 1) false)) → (k : ℕ) → 64 * index ≤ k → get_or edges k false ≡ xor (get_or new k false) (get_or new (k + 1) false)
summed_more edges old new index w next v word next_lt after are set others done k from =
    elim (cases_eq (k / 64) index) [
      | inl here ↦
          let place : 64 * index + k % 64 ≡ k = omega arith in
          subst (λ (n : ℕ). get_or edges n false ≡ xor (get_or new n false) (get_or new (n + 1) false)) place
          (sym (word (k % 64) (omega arith)) ∙ edges_there new index v next w set next_lt (after ∙ sym (others (64 * (index + 1)) (omega arith))) are (k % 64) (omega arith))
      | inr other ↦ done k (omega arith) ∙ rw (others k other, others (k + 1) (omega arith)) refl
    ]
