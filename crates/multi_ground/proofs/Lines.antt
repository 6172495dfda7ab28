-- Lines of a text, and which of them begin with an APID.
use Rattle.std.proofs.Common.{◌≡◌, ℕ, ◌+◌, ◌^◌, ◌%◌, ◌<◌, ◌==◌, Bool, true, false, not, cond, List, [], ◌∷◌, ◌++◌, length, take, drop, codes, refl, sym, ap, ◌∙◌, append_assoc, arith, inl, inr, length-append}
use Rattle.std.specs.Fmt.{decimal}
use Rattle.std.specs.List.{flat_map, list_all}
use Rattle.std.specs.Str.{bytes_eq}
use Rattle.std.proofs.lemmas.Bool.{and_from, and_parts, cases_Bool, eqb-false, ne_eqb, not-true, true≢false}
use Rattle.std.proofs.lemmas.Fmt.{decimal_by_steps, decimal_injective}
use Rattle.std.proofs.lemmas.List.{drop_at, take_at, take-append-drop}
use Rattle.std.proofs.lemmas.List.Concat.{flat_map-cons}
use Rattle.std.proofs.lemmas.List.Folds.{list_all-append}
use Rattle.std.proofs.lemmas.Slice.Eq.{bytes_eq-Decides}
use Rattle.multi_ground.specs.Apart.{after_front, before_line, lines_of, rows_on}
use Rattle.multi_ground.specs.MultiOutputs.{tagged}

-- ---- bytes that are not in a text

abbrev pub lacks : ℕ → List ℕ → Bool
lacks byte text = list_all (λ b. not (b == byte)) text

pub lacks-append : (byte : ℕ) (xs ys : List ℕ) → lacks byte xs ≡ true → lacks byte ys ≡ true → lacks byte (xs ++ ys) ≡ true
lacks-append byte xs ys first next = list_all-append (λ b. not (b == byte)) xs ys ∙ and_from (lacks byte xs) (lacks byte ys) first next

-- a byte that is no digit is in no decimal
lacks-digits : (byte n : ℕ) → ((digit : ℕ) → digit < 10 → 48 + digit ≡ byte → ⊥) → n < 2 ^ 64 → lacks byte (decimal n) ≡ true
lacks-digits byte n none small = decimal_by_steps (λ m ds. lacks byte ds ≡ true) one (λ m ds more front. lacks-append byte ds ((48 + m % 10) ∷ []) front (one (m % 10) (omega arith))) n small
  where
    one : (m : ℕ) → m < 10 → lacks byte ((48 + m) ∷ []) ≡ true
    one m digit = and_from (not (48 + m == byte)) true (ap not (ne_eqb (48 + m) byte (none m digit))) refl

pub lacks-decimal : (byte n : ℕ) → byte < 48 → n < 2 ^ 64 → lacks byte (decimal n) ≡ true
lacks-decimal byte n low small = lacks-digits byte n (λ digit less same. absurd (omega arith)) small

-- so no word is a decimal that has a letter
pub no_decimal : (letter : ℕ) (word : List ℕ) (n : ℕ) → 57 < letter → n < 2 ^ 64 → lacks letter word ≡ false → word ≡ decimal n → ⊥
no_decimal letter word n high small has same = true≢false (sym (lacks-digits letter n (λ digit less is. absurd (omega arith)) small) ∙ (ap (lacks letter) (sym same) ∙ has))

-- ---- lines

-- a text with no line end in it, and then a line end
pub record IsLine (row : List ℕ) : Type 0 where
  pub text : List ℕ
  pub plain : lacks 10 text ≡ true
  pub ends : row ≡ text ++ 10 ∷ []

lines-line : (text rest : List ℕ) → lacks 10 text ≡ true → lines_of (text ++ 10 ∷ rest) ≡ (text ++ 10 ∷ []) ∷ lines_of rest
lines-line [] rest plain = refl
lines-line (b ∷ text) rest plain =
    let parts = and_parts (not (b == 10)) (lacks 10 text) plain in
    ap (λ (end : Bool). cond end ((b ∷ []) ∷ lines_of (text ++ 10 ∷ rest)) (before_line b (lines_of (text ++ 10 ∷ rest)))) (not-true (b == 10) parts.0)
    ∙ ap (before_line b) (lines-line text rest parts.1)

rows-line : (apid : ℕ) (row rest : List ℕ) → IsLine row → rows_on apid (row ++ rest) ≡ after_front (decimal apid ++ codes ",") row ++ rows_on apid rest
rows-line apid row rest line =
    let front = decimal apid ++ codes "," in
    ap (λ l. rows_on apid (l ++ rest)) line.ends
    ∙ (ap (rows_on apid) (append_assoc line.text (10 ∷ []) rest)
    ∙ (ap (flat_map (after_front front)) (lines-line line.text rest line.plain)
    ∙ (flat_map-cons (after_front front) (line.text ++ 10 ∷ []) (lines_of rest)
    ∙ ap (λ l. after_front front l ++ rows_on apid rest) (sym line.ends))))

-- ---- fronts

-- what stands after its own front
front-own : (front row : List ℕ) → after_front front (front ++ row) ≡ row
front-own front row =
    let same : bytes_eq (take (length front) (front ++ row)) front ≡ true = (bytes_eq-Decides (take (length front) (front ++ row)) front).1 (take_at front row (length front) refl) in
    ap (λ (b : Bool). cond b (drop (length front) (front ++ row)) []) same ∙ drop_at front row (length front) refl

-- texts up to a comma
same_field : (xs ys us vs : List ℕ) → lacks 44 xs ≡ true → lacks 44 ys ≡ true → xs ++ 44 ∷ us ≡ ys ++ 44 ∷ vs → xs ≡ ys
same_field [] [] us vs one other same = refl
same_field [] (y ∷ ys) us vs one other same =
    let first : 44 ≡ y = cc in
    absurd (eqb-false y 44 (not-true (y == 44) (and_parts (not (y == 44)) (lacks 44 ys) other).0) (sym first))
same_field (x ∷ xs) [] us vs one other same =
    let first : x ≡ 44 = cc in
    absurd (eqb-false x 44 (not-true (x == 44) (and_parts (not (x == 44)) (lacks 44 xs) one).0) first)
same_field (x ∷ xs) (y ∷ ys) us vs one other same =
    let first : x ≡ y = cc in
    let rest : xs ++ 44 ∷ us ≡ ys ++ 44 ∷ vs = cc in
    let fields = same_field xs ys us vs (and_parts (not (x == 44)) (lacks 44 xs) one).1 (and_parts (not (y == 44)) (lacks 44 ys) other).1 rest in
    λ i. first i ∷ fields i

-- a line with another first field
front-other : (apid : ℕ) (field rest : List ℕ) → apid < 2 ^ 64 → lacks 44 field ≡ true → (field ≡ decimal apid → ⊥) → after_front (decimal apid ++ codes ",") (field ++ 44 ∷ rest) ≡ []
front-other apid field rest small plain other = elim (cases_Bool (bytes_eq (take (length front) line) front)) [
  | inl is ↦ absurd (
      let begins : take (length front) line ≡ front = (bytes_eq-Decides (take (length front) line) front).0 is in
      let whole : field ++ 44 ∷ rest ≡ decimal apid ++ 44 ∷ drop (length front) line = sym (take-append-drop (length front) line) ∙ (ap (λ l. l ++ drop (length front) line) begins ∙ append_assoc (decimal apid) (codes ",") (drop (length front) line)) in
      other (same_field field (decimal apid) rest (drop (length front) line) plain (lacks-decimal 44 apid (omega arith) small) whole))
  | inr is_not ↦ ap (λ (b : Bool). cond b (drop (length front) line) []) is_not
]
  where
    front : List ℕ
    front = decimal apid ++ codes ","

    line : List ℕ
    line = field ++ 44 ∷ rest

-- ---- a row with an APID in front

line-tagged : (apid : ℕ) (row : List ℕ) → apid < 2 ^ 64 → IsLine row → IsLine ((decimal apid ++ codes ",") ++ row)
line-tagged apid row small line = record {
  text = (decimal apid ++ codes ",") ++ line.text;
  plain = lacks-append 10 (decimal apid ++ codes ",") line.text (lacks-append 10 (decimal apid) (codes ",") (lacks-decimal 10 apid (omega arith) small) refl) line.plain;
  ends = ap (λ l. (decimal apid ++ codes ",") ++ l) line.ends ∙ sym (append_assoc (decimal apid ++ codes ",") line.text (10 ∷ []));
}

tagged-line : (apid : ℕ) (row : List ℕ) → IsLine row → tagged apid row ≡ (decimal apid ++ codes ",") ++ row
tagged-line apid [] line = absurd (omega (arith, ap length line.ends, length-append line.text (10 ∷ [])))
tagged-line apid (byte ∷ row) line = refl

-- it is found by its own APID, and by no other
pub rows-tagged : (apid other : ℕ) (row rest : List ℕ) → apid < 2 ^ 64 → other < 2 ^ 64 → IsLine row → other ≡ apid → rows_on apid (tagged other row ++ rest) ≡ row ++ rows_on apid rest
rows-tagged apid other row rest small few line is =
    ap (λ l. rows_on apid (l ++ rest)) (tagged-line other row line)
    ∙ (rows-line apid ((decimal other ++ codes ",") ++ row) rest (line-tagged other row few line)
    ∙ ap (λ l. l ++ rows_on apid rest) (ap (λ n. after_front (decimal apid ++ codes ",") ((decimal n ++ codes ",") ++ row)) is ∙ front-own (decimal apid ++ codes ",") row))

pub rows-others : (apid other : ℕ) (row rest : List ℕ) → apid < 2 ^ 64 → other < 2 ^ 64 → IsLine row → (other ≡ apid → ⊥) → rows_on apid (tagged other row ++ rest) ≡ rows_on apid rest
rows-others apid other row rest small few line apart =
    ap (λ l. rows_on apid (l ++ rest)) (tagged-line other row line)
    ∙ (rows-line apid ((decimal other ++ codes ",") ++ row) rest (line-tagged other row few line)
    ∙ ap (λ l. l ++ rows_on apid rest) (ap (after_front (decimal apid ++ codes ",")) (append_assoc (decimal other) (codes ",") row)
    ∙ front-other apid (decimal other) row small (lacks-decimal 44 other (omega arith) few) (λ same. apart (decimal_injective other apid few small same))))

-- a line that begins with a word is not found
pub rows-word : (apid : ℕ) (word line rest : List ℕ) → apid < 2 ^ 64 → lacks 44 word ≡ true → (word ≡ decimal apid → ⊥) → IsLine (word ++ 44 ∷ line) → rows_on apid ((word ++ 44 ∷ line) ++ rest) ≡ rows_on apid rest
rows-word apid word line rest small plain other is =
    rows-line apid (word ++ 44 ∷ line) rest is ∙ ap (λ l. l ++ rows_on apid rest) (front-other apid word line small plain other)
