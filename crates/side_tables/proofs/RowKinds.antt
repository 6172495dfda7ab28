-- The rows of a schedule by their kinds, the plain decimals in them, and the required robustness.
use Rattle.std.specs.Char.{is_ascii_digit}
use Rattle.std.specs.List.{cons_option, filter_map}
use Rattle.std.specs.Option.{option_map}
use Rattle.std.specs.Prelude.{◌==◌, codes}
use Rattle.std.specs.Result.{result_ok}
use Rattle.std.specs.Str.{all_ascii_digits, IsAscii, IsUtf8, bytes_eq}
use Rattle.std.specs.Str.Parse.{digits_value, ParsesUnsigned}
use Rattle.std.proofs.Common.{◌≡◌, ℕ, zero, suc, ◌<◌, ◌^◌, ◌&&◌, Bool, true, false, cond, List, [], ◌∷◌, length, Some, None, Result, Ok, Err, nat_le, refl, ap, arith, ◌≤◌, leb-true, All, IfSome, Option, find, reverse, subst, sym, ◌++◌}
use Rattle.std.proofs.lemmas.Bool.{and_parts, false≢true}
use Rattle.std.proofs.lemmas.Bool.Decides.{nat_tests}
use Rattle.std.proofs.lemmas.List.{reverse-append, append-nil}
use Rattle.std.proofs.lemmas.List.Elements.{All-append, All-nil, All-cons, All-head, All-tail, filter_map-append}
use Rattle.std.proofs.lemmas.Str.{IsUtf8-from_ascii}
use Rattle.std.proofs.lemmas.Str.Parse.{numerals_by_value, tells_all_ascii_digits, parse_digits}
use Rattle.csv.specs.Records.{field_at}
use Rattle.side_tables.specs.Grammar.{◌>>=◌, flag_row_of, robust_row_of, schedule_row_of, span_from}
use Rattle.side_tables.specs.Numbers.{is_plain_decimal, number_of}
use Rattle.side_tables.specs.Rows.{robust_of, robust_row, robust_span, names, IsFlagRow, IsRobustRow, IsScheduleRow, flag_row}
use Rattle.side_tables.specs.Texts.{alone, rows_from}
use Rattle.side_tables.specs.declared.rows.FlagRow.{FlagRow}
use Rattle.side_tables.specs.declared.rows.RobustRow.{RobustRow}
use Rattle.side_tables.specs.declared.rows.ScheduleRow.{ScheduleRow}
use Rattle.side_tables.specs.declared.rows.ScheduleRow.TheVariants as row
use Rattle.side_tables.specs.declared.span.Span.{Span}
use Rattle.side_tables.proofs.RowTexts.{rows_from-alone}

-- ---- what a plain decimal says, as std's `parse` reads it

plain_digits : (bs : List ℕ) → is_plain_decimal bs ≡ true → (all_ascii_digits bs ≡ true) × (0 < length bs)
plain_digits [] h = absurd (false≢true h)
plain_digits (c ∷ []) h = (h, omega arith)
plain_digits (c ∷ d ∷ ds) h = ((and_parts _ _ h).1, omega arith)

third_false : {A : Type 0} (a b c : Bool) (x : A) → c ≡ false → cond (a && b && c) (Some x) None ≡ None
third_false true true c x e = ap (λ d. cond d (Some x) None) e
third_false true false c x e = refl
third_false false b c x e = refl

leb-false : (m n : ℕ) → n < m → nat_le m n ≡ false
leb-false m n h = grind (arith, nat_tests)

-- if `parse` refuses a plain decimal, it is above every number of 64 bits
pub number_of-refused : {E : Type 0} (low high : ℕ) (bs : List ℕ) (r : Result ℕ E) → high < 2 ^ 64 → ParsesUnsigned 64 10 bs r → is_plain_decimal bs ≡ true → result_ok r ≡ None → number_of low high bs ≡ None
number_of-refused low high bs (Ok x) small parses plain none = absurd cc
number_of-refused low high bs (Err e) small parses plain none =
    let digits = plain_digits bs plain in
    let large = parse_digits (numerals_by_value _ tells_all_ascii_digits) 64 bs (Err e) parses digits.0 in
    third_false (is_plain_decimal bs) (nat_le low (digits_value 10 bs)) (nat_le (digits_value 10 bs) high) (digits_value 10 bs) (leb-false (digits_value 10 bs) high (omega (arith, λ (h : digits_value 10 bs < 2 ^ 64). large (digits.1, h))))

below_128 : (c : ℕ) → is_ascii_digit c ≡ true → c < 128
below_128 c h = grind (arith, nat_tests)

ascii : (bs : List ℕ) → all_ascii_digits bs ≡ true → IsAscii bs
ascii [] h i = omega arith
ascii (c ∷ cs) h zero = below_128 c ((and_parts _ _ h).0)
ascii (c ∷ cs) h (suc i) = ascii cs ((and_parts _ _ h).1) i

-- a text that isn't UTF-8 is not a plain decimal
pub number_of-no_text : (low high : ℕ) (bs : List ℕ) → ¬ IsUtf8 bs → number_of low high bs ≡ None
number_of-no_text low high bs foreign = go (is_plain_decimal bs) refl where
  go : (plain : Bool) → is_plain_decimal bs ≡ plain → number_of low high bs ≡ None
  go true is = absurd (foreign (IsUtf8-from_ascii bs (ascii bs (plain_digits bs is).0)))
  go false is = rw is refl

-- ---- options

pub bind_within : {A B : Type 0} (P : B → Type 0) (f : A → Option B) (o : Option A) → ((x : A) → o ≡ Some x → IfSome (f x) P) → IfSome (o >>= f) P
bind_within P f None each = tt
bind_within P f (Some x) each = each x refl

pub test_within : {A : Type 0} (P : A → Type 0) (b : Bool) (o : Option A) → (b ≡ true → IfSome o P) → IfSome (cond b o None) P
test_within P true o right = right refl
test_within P false o right = tt

-- ---- one row

number_most : (low high : ℕ) (text : List ℕ) → IfSome (number_of low high text) (λ n. n ≤ high)
number_most low high text =
    test_within (λ n. n ≤ high) (is_plain_decimal text && nat_le low (digits_value 10 text) && nat_le (digits_value 10 text) high) (Some (digits_value 10 text))
    (λ right. leb-true _ _ (and_parts _ _ right).1)

abbrev HasMost : RobustRow → Type 0
HasMost row = row.value ≤ 7

abbrev row_by : Span → ℕ → Option RobustRow
row_by span value = Some (record { first = span.first; last = span.last; step = span.step; value = value })

value_most : (span : Span) (o : Option ℕ) → IfSome o (λ n. n ≤ 7) → IfSome (o >>= row_by span) HasMost
value_most span None most = tt
value_most span (Some value) most = most

field_most : (o : Option (List ℕ)) → IfSome (o >>= number_of 0 7) (λ n. n ≤ 7)
field_most None = tt
field_most (Some text) = number_most 0 7 text

robust_row_of-most : (fields : List (List ℕ)) → IfSome (robust_row_of fields) HasMost
robust_row_of-most fields =
    test_within HasMost (length fields == 5) (span_from fields 1 >>= λ span. (field_at fields 4 >>= number_of 0 7) >>= row_by span)
    (λ five. bind_within HasMost (λ span. (field_at fields 4 >>= number_of 0 7) >>= row_by span) (span_from fields 1) (λ span is. value_most span (field_at fields 4 >>= number_of 0 7) (field_most (field_at fields 4))))

-- ---- the rows of records

-- what a row says, if it is a row of required robustness
abbrev IsMost : ScheduleRow → Type 0
IsMost (row.Flags flags) = Unit {0}
IsMost (row.Robust robust) = HasMost robust

robust_most : (o : Option RobustRow) → IfSome o HasMost → IfSome (option_map row.Robust o) IsMost
robust_most None most = tt
robust_most (Some robust) most = most

flags_most : (o : Option FlagRow) → IfSome (option_map row.Flags o) IsMost
flags_most None = tt
flags_most (Some flags) = tt

kind_most : (robust : Bool) (a b : Option ScheduleRow) → IfSome a IsMost → IfSome b IsMost → IfSome (cond robust a b) IsMost
kind_most true a b most other = most
kind_most false a b other most = most

schedule_row_of-most : (fields : List (List ℕ)) → IfSome (schedule_row_of fields) IsMost
schedule_row_of-most fields =
    bind_within IsMost (λ word. cond (bytes_eq word (codes "robust")) (option_map row.Robust (robust_row_of fields)) (option_map row.Flags (flag_row_of fields))) (field_at fields 0)
    (λ word is. kind_most (bytes_eq word (codes "robust")) (option_map row.Robust (robust_row_of fields)) (option_map row.Flags (flag_row_of fields))
    (robust_most (robust_row_of fields) (robust_row_of-most fields)) (flags_most (flag_row_of fields)))

-- a row before others
rows_most : (o : Option ScheduleRow) (rows : List ScheduleRow) → IfSome o IsMost → All HasMost (filter_map robust_row rows) → All HasMost (filter_map robust_row (cons_option o rows))
rows_most None rows most all = all
rows_most (Some (row.Flags flags)) rows most all = all
rows_most (Some (row.Robust robust)) rows most all = All-cons HasMost robust (filter_map robust_row rows) most all

rows_of-most : (records : List (List (List ℕ))) → All HasMost (filter_map robust_row (filter_map schedule_row_of records))
rows_of-most [] = All-nil HasMost
rows_of-most (fields ∷ records) = rows_most (schedule_row_of fields) (filter_map schedule_row_of records) (schedule_row_of-most fields) (rows_of-most records)

-- ---- the last row that names a number

reversed : (rows : List RobustRow) → All HasMost rows → All HasMost (reverse rows)
reversed [] all = All-nil HasMost
reversed (row ∷ rows) all =
    rw (reverse-append (row ∷ []) rows)
    (All-append HasMost (reverse rows) (row ∷ []) (reversed rows (All-tail HasMost row rows all)) (All-cons HasMost row [] (All-head HasMost row rows all) (All-nil HasMost)))

first_most : (passes : Bool) (row : RobustRow) (rest : Option RobustRow) → HasMost row → IfSome rest HasMost → IfSome (cond passes (Some row) rest) HasMost
first_most true row rest most other = most
first_most false row rest most other = other

found : (passes : RobustRow → Bool) (rows : List RobustRow) → All HasMost rows → IfSome (find passes rows) HasMost
found passes [] all = tt
found passes (row ∷ rows) all = first_most (passes row) row (find passes rows) (All-head HasMost row rows all) (found passes rows (All-tail HasMost row rows all))

said : (o : Option RobustRow) → IfSome o HasMost → IfSome (option_map (λ (row : RobustRow). row.value) o) (λ robust. robust ≤ 7)
said None most = tt
said (Some row) most = most

pub robust_of-most : (records : List (List (List ℕ))) (t : ℕ) → IfSome (robust_of (filter_map robust_row (rows_from (alone schedule_row_of) [] records)) t) (λ robust. robust ≤ 7)
robust_of-most records t =
    let rows = filter_map robust_row (rows_from (alone schedule_row_of) [] records) in
    let most = subst (λ (rows : List ScheduleRow). All HasMost (filter_map robust_row rows)) (sym (rows_from-alone schedule_row_of [] records)) (rows_of-most records) in
    said (find (λ row. names (robust_span row) t) (reverse rows)) (found (λ row. names (robust_span row) t) (reverse rows) (reversed rows most))

-- ---- the rows of a schedule by their kinds

-- the rows of each kind among these
pub record AreOfKinds (rows : List ScheduleRow) (flags : List FlagRow) (robust : List RobustRow) : Type 0 where
  pub flags_are : flags ≡ filter_map flag_row rows
  pub robust_are : robust ≡ filter_map robust_row rows

-- one more row
pub AreOfKinds-flags : (rows : List ScheduleRow) (flags : List FlagRow) (robust : List RobustRow) (more : FlagRow) → AreOfKinds rows flags robust → AreOfKinds (rows ++ row.Flags more ∷ []) (flags ++ more ∷ []) robust
AreOfKinds-flags rows flags robust more are = record {
  flags_are = rw (filter_map-append flag_row rows (row.Flags more ∷ []), are.flags_are) refl;
  robust_are = rw (filter_map-append robust_row rows (row.Flags more ∷ []), append-nil (filter_map robust_row rows)) are.robust_are;
}

pub AreOfKinds-robust : (rows : List ScheduleRow) (flags : List FlagRow) (robust : List RobustRow) (more : RobustRow) → AreOfKinds rows flags robust → AreOfKinds (rows ++ row.Robust more ∷ []) flags (robust ++ more ∷ [])
AreOfKinds-robust rows flags robust more are = record {
  flags_are = rw (filter_map-append flag_row rows (row.Robust more ∷ []), append-nil (filter_map flag_row rows)) are.flags_are;
  robust_are = rw (filter_map-append robust_row rows (row.Robust more ∷ []), are.robust_are) refl;
}

-- right rows are right for their kinds
pub flags_right : (rows : List ScheduleRow) → All IsScheduleRow rows → All IsFlagRow (filter_map flag_row rows)
flags_right [] all = All-nil IsFlagRow
flags_right (row.Flags flags ∷ rows) all =
    All-cons IsFlagRow flags (filter_map flag_row rows) (All-head IsScheduleRow (row.Flags flags) rows all) (flags_right rows (All-tail IsScheduleRow (row.Flags flags) rows all))
flags_right (row.Robust robust ∷ rows) all = flags_right rows (All-tail IsScheduleRow (row.Robust robust) rows all)

pub robust_right : (rows : List ScheduleRow) → All IsScheduleRow rows → All IsRobustRow (filter_map robust_row rows)
robust_right [] all = All-nil IsRobustRow
robust_right (row.Flags flags ∷ rows) all = robust_right rows (All-tail IsScheduleRow (row.Flags flags) rows all)
robust_right (row.Robust robust ∷ rows) all =
    All-cons IsRobustRow robust (filter_map robust_row rows) (All-head IsScheduleRow (row.Robust robust) rows all) (robust_right rows (All-tail IsScheduleRow (row.Robust robust) rows all))
