-- The rows of a text by their kind, and the columns that they make.
use Rattle.std.proofs.Common.{◌≡◌, ℕ, ◌<◌, ◌≤◌, ◌&&◌, ◌==◌, Bool, true, false, cond, List, [], ◌∷◌, ◌++◌, length, map, count_by, Option, None, Some, All, IfSome, nat_lt, codes, refl, sym, ap, ◌∙◌, subst, arith, append-nil}
use Rattle.std.specs.List.{filter_map, find}
use Rattle.std.specs.Option.{option_map, option_to_list}
use Rattle.std.proofs.lemmas.List.{length-map}
use Rattle.std.proofs.lemmas.List.Elements.{All-nil, All-cons, All-head, All-tail, filter_map-append}
use Rattle.std.proofs.lemmas.List.Sums.{sum_by-cons, sum_by_push}
use Rattle.std.proofs.lemmas.Bool.Decides.{nat_tests}
use Rattle.std.specs.Str.{bytes_eq}
use Rattle.csv.specs.Records.{field_at}
use Rattle.side_tables.specs.Grammar.{◌>>=◌}
use Rattle.side_tables.specs.Texts.{rows_from, rows_of, records_of}
use Rattle.param_table.specs.declared.rows.FieldRow.{FieldRow}
use Rattle.param_table.specs.declared.rows.LimitRow.{LimitRow}
use Rattle.param_table.specs.declared.rows.TextRow.{TextRow}
use Rattle.param_table.specs.declared.rows.TextRow.TheVariants as row
use Rattle.param_table.specs.Rows.{AreColumns, IsColumn, IsFieldRow, IsLimit, IsLimitRow, IsTextRow, column_of, columns_of, field_of, is_field, limit_named, limit_of, same_name, field_row_of, limit_row_of, text_row_of}

pub filter_map-one : {A B : Type 0} (f : A → Option B) (x : A) (o : Option B) → f x ≡ o → filter_map f (x ∷ []) ≡ option_to_list (f x)
filter_map-one f x None is = rw is refl
filter_map-one f x (Some y) is = rw is refl

-- one more row
pub kinds-more : {A : Type 0} (kind_of : TextRow → Option A) (rows : List TextRow) (next : TextRow) (before now : List A) → before ≡ filter_map kind_of rows → now ≡ before ++ option_to_list (kind_of next) → now ≡ filter_map kind_of (rows ++ next ∷ [])
kinds-more {A = A} kind_of rows next before now before_is now_is =
    now_is ∙ (ap (λ (l : List A). l ++ option_to_list (kind_of next)) before_is ∙ sym (filter_map-append kind_of rows (next ∷ []) ∙ ap (λ (l : List A). filter_map kind_of rows ++ l) (filter_map-one kind_of next (kind_of next) refl)))

-- ---- right columns

fields_right : (f : ℕ) (rows : List TextRow) → All (IsTextRow f) rows → All (IsFieldRow f) (filter_map field_of rows)
fields_right f [] all = All-nil (IsFieldRow f)
fields_right f (row.Field field ∷ rows) all = All-cons (IsFieldRow f) field (filter_map field_of rows) (All-head (IsTextRow f) (row.Field field) rows all) (fields_right f rows (All-tail (IsTextRow f) (row.Field field) rows all))
fields_right f (row.Limit limit ∷ rows) all = fields_right f rows (All-tail (IsTextRow f) (row.Limit limit) rows all)

limits_right : (f : ℕ) (rows : List TextRow) → All (IsTextRow f) rows → All IsLimitRow (filter_map limit_of rows)
limits_right f [] all = All-nil IsLimitRow
limits_right f (row.Field field ∷ rows) all = limits_right f rows (All-tail (IsTextRow f) (row.Field field) rows all)
limits_right f (row.Limit limit ∷ rows) all = All-cons IsLimitRow limit (filter_map limit_of rows) (All-head (IsTextRow f) (row.Limit limit) rows all) (limits_right f rows (All-tail (IsTextRow f) (row.Limit limit) rows all))

limit_right : (limits : List LimitRow) (name : List ℕ) → All IsLimitRow limits → IfSome (limit_named limits name) IsLimit
limit_right [] name all = tt
limit_right (limit ∷ limits) name all = by_name (same_name limit.name name) (limit_right limits name (All-tail IsLimitRow limit limits all)) where
  by_name : (same : Bool) → IfSome (limit_named limits name) IsLimit → IfSome (option_map (λ (l : LimitRow). l.limit) (cond same (Some limit) (find (λ (l : LimitRow). same_name l.name name) limits))) IsLimit
  by_name true later = All-head IsLimitRow limit limits all
  by_name false later = later

columns_right : (f : ℕ) (limits : List LimitRow) (fields : List FieldRow) → All IsLimitRow limits → All (IsFieldRow f) fields → All (IsColumn f) (map (column_of limits) fields)
columns_right f limits [] right all = All-nil (IsColumn f)
columns_right f limits (field ∷ fields) right all =
    All-cons (IsColumn f) (column_of limits field) (map (column_of limits) fields)
    (record { field = All-head (IsFieldRow f) field fields all; limit = limit_right limits field.name right })
    (columns_right f limits fields right (All-tail (IsFieldRow f) field fields all))

-- ---- how many

-- a further row keeps the fields to 256
field-few : (f : ℕ) (before : List TextRow) (fields : List (List ℕ)) (field : FieldRow) → field_row_of f before fields ≡ Some field → count_by is_field before < 256
field-few f before fields field is = by-count (length fields == 5) (nat_lt (count_by is_field before) 256) _ (λ few. grind (arith, nat_tests)) is
  where
    by-count : (five few : Bool) (named : Option FieldRow) → (few ≡ true → count_by is_field before < 256) → cond (five && few) named None ≡ Some field → count_by is_field before < 256
    by-count true true named told is = told refl
    by-count true false named told is = absurd cc
    by-count false few named told is = absurd cc

named-field : (at : Option (List ℕ)) (first second : List ℕ → Bool) (field : Option FieldRow) (limit : Option LimitRow) (named : FieldRow)
    → (at >>= λ word. cond (first word) (option_map row.Field field) (cond (second word) (option_map row.Limit limit) None)) ≡ Some (row.Field named) → field ≡ Some named
named-field None first second field limit named is = absurd cc
named-field (Some word) first second field limit named is = by (first word) (second word) field limit is
  where
    by : (a b : Bool) (field : Option FieldRow) (limit : Option LimitRow) → cond a (option_map row.Field field) (cond b (option_map row.Limit limit) None) ≡ Some (row.Field named) → field ≡ Some named
    by true b None limit is = absurd cc
    by true b (Some field) limit is = cc
    by false true field None is = absurd cc
    by false true field (Some limit) is = absurd cc
    by false false field limit is = absurd cc

next-few : (f : ℕ) (before : List TextRow) (fields : List (List ℕ)) → count_by is_field before ≤ 256 → count_by is_field (before ++ option_to_list (text_row_of f before fields)) ≤ 256
next-few f before fields few = by (text_row_of f before fields) refl
  where
    by : (next : Option TextRow) → text_row_of f before fields ≡ next → count_by is_field (before ++ option_to_list next) ≤ 256
    by None is = subst (λ (l : List TextRow). count_by is_field l ≤ 256) (sym (append-nil before)) few
    by (Some (row.Limit limit)) is = omega (arith, sum_by_push (λ (r : TextRow). cond (is_field r) 1 0) before (row.Limit limit))
    by (Some (row.Field field)) is =
        let below = field-few f before fields field (named-field (field_at fields 0) (λ word. bytes_eq word (codes "field")) (λ word. bytes_eq word (codes "limit")) (field_row_of f before fields) (limit_row_of before fields) field is) in
        omega (arith, sum_by_push (λ (r : TextRow). cond (is_field r) 1 0) before (row.Field field))

rows-few : (f : ℕ) (before : List TextRow) (records : List (List (List ℕ))) → count_by is_field before ≤ 256 → count_by is_field (rows_from (text_row_of f) before records) ≤ 256
rows-few f before [] few = few
rows-few f before (fields ∷ records) few = rows-few f (before ++ option_to_list (text_row_of f before fields)) records (next-few f before fields few)

fields-count : (rows : List TextRow) → length (filter_map field_of rows) ≡ count_by is_field rows
fields-count [] = refl
fields-count (row.Field field ∷ rows) = omega (arith, fields-count rows, sum_by-cons (λ (r : TextRow). cond (is_field r) 1 0) (row.Field field) rows)
fields-count (row.Limit limit ∷ rows) = omega (arith, fields-count rows, sum_by-cons (λ (r : TextRow). cond (is_field r) 1 0) (row.Limit limit) rows)

-- the columns of the rows of a text
pub AreColumns-rows : (f : ℕ) (text : List ℕ) (rows : List TextRow) → rows ≡ rows_of (text_row_of f) text → All (IsTextRow f) rows → AreColumns f (columns_of rows)
AreColumns-rows f text rows are all = record {
  each = columns_right f (filter_map limit_of rows) (filter_map field_of rows) (limits_right f rows all) (fields_right f rows all);
  few =
      let few = rows-few f [] (records_of text) (omega arith) in
      let some = ap (λ (l : List TextRow). count_by is_field l) are in
      omega (arith, length-map (filter_map field_of rows) (column_of (filter_map limit_of rows)), fields-count rows, few, some);
}
