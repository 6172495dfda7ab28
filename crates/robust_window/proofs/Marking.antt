-- The marks of the latest sixteen steps, and the changes that are marked.
use Rattle.std.proofs.Common.{◌≡◌, ℕ, zero, suc, ◌+◌, ◌-◌, ◌*◌, ◌/◌, ◌%◌, ◌^◌, ◌<◌, ◌≤◌, Bool, true, false, cond, eqb, if◌then◌else◌, List, [], ◌∷◌, ◌++◌, length, drop, replicate, get_or, bit_or, count_ones, w16, refl, sym, ap, ◌∙◌, inl, inr, arith, add-one, subst}
use Rattle.std.specs.Prelude.{All, Contains}
use Rattle.circular_buffer.specs.Buffer.{Buffer, buffer}
use Rattle.std.specs.Int.{bit_at, trailing_zeros}
use Rattle.std.specs.Int.Count.{trailing_of_zero}
use Rattle.std.specs.List.{count_by, range_with_len}
use Rattle.std.proofs.lemmas.Bool.{cases_eq}
use Rattle.std.proofs.lemmas.List.{length-drop}
use Rattle.std.proofs.lemmas.Nat.{or_shifted, ones_cat, mod_low, mod-pow-add, mod_below, pow_pos, shr_high, shr_le}
use Rattle.std.proofs.lemmas.Nat.Bits.{bit_at_cat_high, bit_at-zero, bit_at-lt, bit_at-trailing_zeros, same_from_bits_below}
use Rattle.bit_vectors.specs.Vectors.{number_bits}
use Rattle.bit_vectors.proofs.NumberBits.{length-number_bits, get_or-number_bits, bit_at_mod, bit_at_shr, number_bits-cat, number_bits-mod}
use Rattle.robust_window.specs.Window.{AreChanges, AreClear, AreMarked, LatestChanges, change_back, changes_of, mark_back, marks_of, new_mask_back, where_marked}
use Rattle.robust_window.proofs.Ranges.{count_push}
use Rattle.robust_window.proofs.Standing.{All-pushed, earlier_pushed, latest_pushed, length-pushed}

-- ---- marks

pub length-marks : (n : ℕ) → length (marks_of n) ≡ 16
length-marks n = length-number_bits 16 n

pub marks-back : (n back : ℕ) → back < 16 → new_mask_back (marks_of n) back ≡ mark_back n back
marks-back n back lt =
    let same : 16 - 1 - (15 - back) ≡ back = omega arith in
    get_or-number_bits 16 n (15 - back) (omega arith) ∙ ap (λ (i : ℕ). eqb (bit_at n i) 1) same

drop-number_bits : (width n : ℕ) → drop 1 (number_bits (suc width) n) ≡ number_bits width n
unfolding number_bits
drop-number_bits width n = refl

last_bit : (mark : Bool) → number_bits 1 (cond mark 1 0) ≡ mark ∷ []
unfolding number_bits
last_bit true = refl
last_bit false = refl

bit_below : (mark : Bool) → cond mark 1 0 < 2 ^ 1
bit_below true = omega arith
bit_below false = omega arith

-- one more mark is added, and the oldest is dropped
pub marks-pushed : (n : ℕ) (mark : Bool) → marks_of (bit_or (n * 2 % 65536) (cond mark 1 0)) ≡ drop 1 (marks_of n) ++ mark ∷ []
marks-pushed n mark =
    let low : n * 2 % 65536 ≡ n % 2 ^ 15 * 2 ^ 1 = omega arith in
    ap (λ (m : ℕ). number_bits 16 (bit_or m (cond mark 1 0))) low
    ∙ ap (number_bits 16) (or_shifted (n % 2 ^ 15) 1 (cond mark 1 0) (bit_below mark))
    ∙ number_bits-cat 15 1 (n % 2 ^ 15) (cond mark 1 0) (bit_below mark)
    ∙ (λ i. number_bits-mod 15 15 n (omega arith) i ++ last_bit mark i)
    ∙ ap (λ (l : List Bool). l ++ mark ∷ []) (sym (drop-number_bits 15 n))

-- ---- the lowest mark from one on

pub below_lowest : (n s i : ℕ) → n < 2 ^ 16 → i < trailing_zeros w16 (n / 2 ^ s) → mark_back n (s + i) ≡ false
below_lowest n s i fits lt =
    let none : bit_at (n / 2 ^ s) i ≡ 0 = elim (cases_eq (n / 2 ^ s) 0) [
      | inl zeros ↦ ap (λ (m : ℕ). bit_at m i) zeros ∙ bit_at-zero i
      | inr some ↦ (bit_at-trailing_zeros w16 (n / 2 ^ s) (omega arith) (omega (arith, shr_le n s))).2 i lt
    ] in
    ap (λ (b : ℕ). eqb b 1) (sym (bit_at_shr n s i) ∙ none)

pub at_lowest : (n s : ℕ) → n < 2 ^ 16 → trailing_zeros w16 (n / 2 ^ s) < 16 → mark_back n (s + trailing_zeros w16 (n / 2 ^ s)) ≡ true
at_lowest n s fits lt =
    let one : bit_at (n / 2 ^ s) (trailing_zeros w16 (n / 2 ^ s)) ≡ 1 = elim (cases_eq (n / 2 ^ s) 0) [
      | inl zeros ↦ absurd (omega (arith, subst (λ (m : ℕ). trailing_zeros w16 m < 16) zeros lt, trailing_of_zero 16))
      | inr some ↦ (bit_at-trailing_zeros w16 (n / 2 ^ s) (omega arith) (omega (arith, shr_le n s))).1
    ] in
    ap (λ (b : ℕ). eqb b 1) (sym (bit_at_shr n s (trailing_zeros w16 (n / 2 ^ s))) ∙ one)

-- ---- how many are set

ones_bit : (b : ℕ) → b < 2 → count_ones b ≡ cond (eqb b 1) 1 0
unfolding lib.Count.ones
ones_bit zero lt = refl
ones_bit (suc zero) lt = refl
ones_bit (suc (suc b)) lt = absurd (omega arith)

turned : (a b : ℕ) → a + b ≡ b + a
turned a b = omega arith

ones_below : (n count : ℕ) → count ≤ 16 → count_ones (n % 2 ^ count) ≡ count_by (new_mask_back (marks_of n)) (range_with_len 0 count)
ones_below n zero le = let none : n % 2 ^ 0 ≡ 0 = omega arith in ap count_ones none ∙ ones_bit 0 (omega arith)
ones_below n (suc count) le =
    let p = new_mask_back (marks_of n) in
    let size : suc count ≡ 1 + count = omega arith in
    ap (λ (k : ℕ). count_ones (n % 2 ^ k)) size
    ∙ ap count_ones (mod-pow-add n 1 count)
    ∙ ones_cat count (n / 2 ^ count % 2 ^ 1) (n % 2 ^ count) (mod_below n (2 ^ count) (pow_pos count))
    ∙ (λ i. ones_bit (bit_at n count) (bit_at-lt n count) i + ones_below n count (omega arith) i)
    ∙ turned (cond (mark_back n count) 1 0) (count_by p (range_with_len 0 count))
    ∙ ap (λ (b : Bool). count_by p (range_with_len 0 count) + cond b 1 0) (sym (marks-back n count (omega arith)))
    ∙ sym (count_push p 0 count count (omega arith))
    ∙ ap (λ (k : ℕ). count_by p (range_with_len 0 k)) (add-one count)

low_shifted : (n i k : ℕ) → n * 2 ^ k % 2 ^ (i + k) ≡ n % 2 ^ i * 2 ^ k + 0
low_shifted n i k =
    let whole : n * 2 ^ k ≡ n * 2 ^ k + 0 = omega arith in
    mod-pow-add (n * 2 ^ k) i k
    ∙ (λ j. (ap (λ (m : ℕ). m / 2 ^ k) whole ∙ shr_high n k 0 (pow_pos k)) j % 2 ^ i * 2 ^ k + (ap (λ (m : ℕ). m % 2 ^ k) whole ∙ mod_low n k 0 (pow_pos k)) j)

pub ones_shifted : (n count : ℕ) → count ≤ 16 → count_ones (n * 2 ^ (16 - count) % 65536) ≡ count_by (new_mask_back (marks_of n)) (range_with_len 0 count)
ones_shifted n count le =
    let all : 65536 ≡ 2 ^ 16 = refl in
    let parts : 16 ≡ count + (16 - count) = omega arith in
    let none : count_ones (n % 2 ^ count) + count_ones 0 ≡ count_ones (n % 2 ^ count) = omega (arith, ones_bit 0 (omega arith)) in
    ap (λ (k : ℕ). count_ones (n * 2 ^ (16 - count) % 2 ^ k)) parts
    ∙ ap count_ones (low_shifted n count (16 - count))
    ∙ ones_cat (16 - count) (n % 2 ^ count) 0 (pow_pos (16 - count))
    ∙ none
    ∙ ones_below n count le

-- if a shift leaves nothing, none of the low marks is set
pub clear-shifted : (n count : ℕ) → count ≤ 16 → n * 2 ^ (16 - count) % 65536 ≡ 0 → AreClear n count
clear-shifted n count le none back lt =
    let k = 16 - count in
    let parts : 16 ≡ count + (16 - count) = omega arith in
    let low : n % 2 ^ count * 2 ^ (16 - count) + 0 ≡ 0 = sym (ap (λ (j : ℕ). n * 2 ^ (16 - count) % 2 ^ j) parts ∙ low_shifted n count (16 - count)) ∙ none in
    let at : back + (16 - count) - (16 - count) ≡ back = omega arith in
    let bit : bit_at n back ≡ 0 =
    sym (bit_at_mod n count back lt)
    ∙ (ap (bit_at (n % 2 ^ count)) (sym at)
    ∙ (sym (bit_at_cat_high (n % 2 ^ count) k 0 (back + k) (pow_pos k) (omega arith))
    ∙ (ap (λ (m : ℕ). bit_at m (back + k)) low ∙ bit_at-zero (back + k)))) in
    ap (λ (b : ℕ). eqb b 1) bit

-- a bit that is not 1 is 0
no_bit : (b : ℕ) → b < 2 → eqb b 1 ≡ false → b ≡ 0
no_bit zero lt unset = refl
no_bit (suc zero) lt unset = let other : true ≡ false = unset in cc
no_bit (suc (suc b)) lt unset = absurd (omega arith)

-- and if none of them is set, it leaves nothing
pub shifted-clear : (n count : ℕ) → count ≤ 16 → AreClear n count → n * 2 ^ (16 - count) % 65536 ≡ 0
shifted-clear n count le clear =
    let parts : 16 ≡ count + (16 - count) = omega arith in
    let low : n % 2 ^ count ≡ 0 = same_from_bits_below count (n % 2 ^ count) 0 (mod_below n (2 ^ count) (pow_pos count)) (pow_pos count) (λ back lt.
    let unset : eqb (bit_at n back) 1 ≡ false = clear back lt in
    bit_at_mod n count back lt ∙ no_bit (bit_at n back) (bit_at-lt n back) unset ∙ sym (bit_at-zero back)) in
    let none : 0 * 2 ^ (16 - count) + 0 ≡ 0 = omega arith in
    ap (λ (j : ℕ). n * 2 ^ (16 - count) % 2 ^ j) parts
    ∙ low_shifted n count (16 - count)
    ∙ ap (λ (m : ℕ). m * 2 ^ (16 - count) + 0) low
    ∙ none

-- ---- what is marked

module _ {A : Type 0} where
  where_marked-at : (marks : List Bool) (slots : List A) (nothing d : A) (i : ℕ) → length marks ≡ length slots → i < length slots → get_or (where_marked marks slots nothing) i d ≡ (if get_or marks i false then get_or slots i d else nothing)
  where_marked-at marks [] nothing d i len lt = absurd (omega arith)
  where_marked-at [] (slot ∷ slots) nothing d i len lt = absurd (omega arith)
  where_marked-at (mark ∷ marks) (slot ∷ slots) nothing d zero len lt = refl
  where_marked-at (mark ∷ marks) (slot ∷ slots) nothing d (suc i) len lt = where_marked-at marks slots nothing d i (omega arith) (omega arith)

  where_marked-push : (marks : List Bool) (slots : List A) (nothing : A) (mark : Bool) (slot : A) → length marks ≡ length slots → where_marked (marks ++ mark ∷ []) (slots ++ slot ∷ []) nothing ≡ where_marked marks slots nothing ++ (if mark then slot else nothing) ∷ []
  where_marked-push [] [] nothing mark slot len = refl
  where_marked-push [] (s ∷ slots) nothing mark slot len = absurd (omega arith)
  where_marked-push (m ∷ marks) [] nothing mark slot len = absurd (omega arith)
  where_marked-push (m ∷ marks) (s ∷ slots) nothing mark slot len = ap (λ (l : List A). (if m then s else nothing) ∷ l) (where_marked-push marks slots nothing mark slot (omega arith))

  where_marked-drop : (marks : List Bool) (slots : List A) (nothing : A) → length marks ≡ length slots → where_marked (drop 1 marks) (drop 1 slots) nothing ≡ drop 1 (where_marked marks slots nothing)
  where_marked-drop [] [] nothing len = refl
  where_marked-drop [] (s ∷ slots) nothing len = absurd (omega arith)
  where_marked-drop (m ∷ marks) [] nothing len = absurd (omega arith)
  where_marked-drop (m ∷ marks) (s ∷ slots) nothing len = refl

  where_marked-none : (slots : List A) (nothing : A) → where_marked (replicate (length slots) false) slots nothing ≡ replicate (length slots) nothing
  where_marked-none [] nothing = refl
  where_marked-none (s ∷ slots) nothing = ap (λ (l : List A). nothing ∷ l) (where_marked-none slots nothing)

pub marks-none : marks_of 0 ≡ replicate 16 false
unfolding number_bits
marks-none = refl

-- without a mark all are zeros
pub changes_of-none : (f n : ℕ) (slots : List (List Bool)) → length slots ≡ 16 → n ≡ 0 → changes_of f n slots ≡ replicate 16 (replicate f false)
changes_of-none f n slots len none =
    let zeros = replicate f false in
    ap (λ (m : ℕ). changes_of f m slots) none
    ∙ ap (λ (ms : List Bool). where_marked ms slots zeros) (marks-none ∙ ap (λ (k : ℕ). replicate k false) (sym len))
    ∙ where_marked-none slots zeros
    ∙ ap (λ (k : ℕ). replicate k zeros) len

-- the change the given number of steps back
changes_of-back : (f n : ℕ) (slots : List (List Bool)) (back : ℕ) → length slots ≡ 16 → back < 16 → change_back (changes_of f n slots) back ≡ (if mark_back n back then change_back slots back else replicate f false)
changes_of-back f n slots back len lt =
    where_marked-at (marks_of n) slots (replicate f false) [] (15 - back) (length-marks n ∙ sym len) (omega arith)
    ∙ ap (λ (b : Bool). if b then change_back slots back else replicate f false) (marks-back n back lt)

changes_of-marked : (f n : ℕ) (slots : List (List Bool)) (back : ℕ) → length slots ≡ 16 → back < 16 → mark_back n back ≡ true → change_back (changes_of f n slots) back ≡ change_back slots back
changes_of-marked f n slots back len lt set = changes_of-back f n slots back len lt ∙ ap (λ (b : Bool). if b then change_back slots back else replicate f false) set

changes_of-quiet : (f n : ℕ) (slots : List (List Bool)) (back : ℕ) → length slots ≡ 16 → back < 16 → mark_back n back ≡ false → change_back (changes_of f n slots) back ≡ replicate f false
changes_of-quiet f n slots back len lt set = changes_of-back f n slots back len lt ∙ ap (λ (b : Bool). if b then change_back slots back else replicate f false) set

same_change : (f : ℕ) (change kept : List Bool) (mark : Bool) → (mark ≡ false → change ≡ replicate f false) → (if mark then (if mark then change else kept) else replicate f false) ≡ change
same_change f change kept true quiet = refl
same_change f change kept false quiet = sym (quiet refl)

-- one more change is added, and the oldest is dropped
pub changes_of-pushed : (f old new : ℕ) (slots : List (List Bool)) (change kept : List Bool) (mark : Bool) → length slots ≡ 16 → marks_of new ≡ drop 1 (marks_of old) ++ mark ∷ [] → (mark ≡ false → change ≡ replicate f false)
    → changes_of f new (drop 1 slots ++ (if mark then change else kept) ∷ []) ≡ drop 1 (changes_of f old slots) ++ change ∷ []
changes_of-pushed f old new slots change kept mark len marks quiet =
    let zeros = replicate f false in
    let slot = if mark then change else kept in
    let same : length (marks_of old) ≡ length slots = length-marks old ∙ sym len in
    ap (λ (ms : List Bool). where_marked ms (drop 1 slots ++ slot ∷ []) zeros) marks
    ∙ where_marked-push (drop 1 (marks_of old)) (drop 1 slots) zeros mark slot (omega (arith, length-drop 1 (marks_of old), length-drop 1 slots))
    ∙ (λ i. where_marked-drop (marks_of old) slots zeros same i ++ same_change f change kept mark quiet i ∷ [])

-- a change that is marked has a 1
pub marked-pushed : (old new : ℕ) (slots : List (List Bool)) (change kept : List Bool) (mark : Bool) → length slots ≡ 16 → marks_of new ≡ drop 1 (marks_of old) ++ mark ∷ [] → (mark ≡ true → Contains change true)
    → AreMarked old slots → AreMarked new (drop 1 slots ++ (if mark then change else kept) ∷ [])
marked-pushed old new slots change kept mark len marks one marked zero lt set =
    let is : mark ≡ true = sym (latest_pushed (marks_of old) mark false (length-marks old)) ∙ ap (λ (l : List Bool). new_mask_back l 0) (sym marks) ∙ (marks-back new 0 lt ∙ set) in
    let slot : (if mark then change else kept) ≡ change = ap (λ (b : Bool). if b then change else kept) is in
    subst (λ (v : List Bool). Contains v true) (sym (latest_pushed slots (if mark then change else kept) [] len ∙ slot)) (one is)
marked-pushed old new slots change kept mark len marks one marked (suc back) lt set =
    let was : mark_back old back ≡ true = sym (marks-back old back (omega arith)) ∙ (sym (earlier_pushed (marks_of old) mark false back (length-marks old) (omega arith)) ∙ (ap (λ (l : List Bool). new_mask_back l (suc back)) (sym marks) ∙ (marks-back new (suc back) lt ∙ set))) in
    subst (λ (v : List Bool). Contains v true) (sym (earlier_pushed slots (if mark then change else kept) [] back len (omega arith))) (marked back (omega arith) was)

-- the slots with one more in place of the oldest
pub AreChanges-pushed : (old new : Buffer (List Bool)) (marks next : ℕ) (zeros change kept : List Bool) (mark : Bool) → AreChanges old marks zeros → new ≡ buffer (drop 1 old.items ++ (if mark then change else kept) ∷ []) 16 → next < 65536 → marks_of next ≡ drop 1 (marks_of marks) ++ mark ∷ [] → length (if mark then change else kept) ≡ length zeros
    → (mark ≡ true → Contains change true) → AreChanges new next zeros
AreChanges-pushed old new marks next zeros change kept mark h new_is below marks_is len one =
    let slot = if mark then change else kept in
    let fit = λ (v : List Bool). length v ≡ length zeros in
    let items = ap (λ (b : Buffer (List Bool)). b.items) new_is in
    record {
      full = ap (λ (b : Buffer (List Bool)). b.capacity) new_is;
      count = ap length items ∙ length-pushed old.items slot h.count;
      places = subst (All fit) (sym items) (All-pushed fit old.items slot h.places len);
      bound = below;
      marked = subst (AreMarked next) (sym items) (marked-pushed marks next old.items change kept mark h.count marks_is one h.marked);
      none = h.none;
    }

-- the latest changes, in terms of what is kept
module _ (slots : Buffer (List Bool)) (marks : ℕ) (zeros : List Bool) (value : LatestChanges) (h : AreChanges slots marks zeros) (view : record { places = length zeros; latest = changes_of (length zeros) marks slots.items } ≡ value) (back : ℕ) (lt : back < 16) where
  pub latest-marked : mark_back marks back ≡ true → change_back value.latest back ≡ change_back slots.items back
  latest-marked set = ap (λ (k : LatestChanges). change_back k.latest back) (sym view) ∙ changes_of-marked (length zeros) marks slots.items back h.count lt set

  pub latest-quiet : mark_back marks back ≡ false → change_back value.latest back ≡ replicate value.places false
  latest-quiet unset = subst (λ (k : LatestChanges). change_back k.latest back ≡ replicate k.places false) view (changes_of-quiet (length zeros) marks slots.items back h.count lt unset)
