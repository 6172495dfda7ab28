-- The rows of streams: what a row says, that no two have one APID, and the index of each.
use Rattle.std.proofs.Common.{◌≡◌, ◌≢◌, ℕ, ◌+◌, ◌-◌, ◌<◌, ◌≤◌, ◌&&◌, ◌==◌, ltb-true, Bool, true, false, cond, List, [], ◌∷◌, ◌++◌, length, IfSome, Option, Some, None, get_or, set, not, nat_le, nat_lt, leb-true, refl, sym, ap, subst, ◌∙◌, arith, inl, inr, length-append, append-nil, below_more}
use Rattle.std.specs.List.{list_any, position_or_len}
use Rattle.std.specs.Option.{option_to_list}
use Rattle.std.specs.Str.Parse.{digits_value}
use Rattle.std.proofs.lemmas.Bool.{and_parts, cases_Bool, cases_lt, eq-eqb, eqb-true, ltb-false, not-true, true≢false, lt-ltb}
use Rattle.std.proofs.lemmas.List.{get_or_append_left, get_or-append_right, get_or-set_same, get_or-set_other, length-set}
use Rattle.std.proofs.lemmas.List.Elements.{All-push, All-nil, All-get_or}
use Rattle.std.proofs.lemmas.List.Folds.{list_any_at}
use Rattle.std.proofs.lemmas.List.Sums.{position_or_len_is, passes_at_first, fails_before_first}
use Rattle.csv.specs.Records.{field_at}
use Rattle.side_tables.specs.declared.rows.StreamRow.{StreamRow}
use Rattle.side_tables.specs.Grammar.{◌>>=◌}
use Rattle.side_tables.specs.Numbers.{is_plain_decimal, number_of}
use Rattle.side_tables.specs.Streams.{AreIndexesOf, AreStreams, IsStreamRow, has_apid, no_stream, stream_at, stream_of, stream_row_of, stream_row_after}
use Rattle.side_tables.specs.Texts.{rows_from}
use Rattle.side_tables.proofs.RowKinds.{bind_within, test_within}

-- ---- what a row says

abbrev IsBetween : ℕ → ℕ → ℕ → Type 0
IsBetween low high n = (low ≤ n) × (n ≤ high)

number_between : (low high : ℕ) (text : List ℕ) → IfSome (number_of low high text) (IsBetween low high)
number_between low high text =
    test_within (IsBetween low high) (is_plain_decimal text && nat_le low (digits_value 10 text) && nat_le (digits_value 10 text) high) (Some (digits_value 10 text))
    (λ right. let parts = and_parts _ _ right in (leb-true _ _ (and_parts _ _ parts.0).1, leb-true _ _ parts.1))

field_between : (low high : ℕ) (o : Option (List ℕ)) → IfSome (o >>= number_of low high) (IsBetween low high)
field_between low high None = tt
field_between low high (Some text) = number_between low high text

abbrev row_by : ℕ → ℕ → Option StreamRow
row_by apid bits = Some (record { apid = apid; bits = bits })

stream_row_of-right : (fields : List (List ℕ)) → IfSome (stream_row_of fields) IsStreamRow
stream_row_of-right fields =
    let of_apid = field_at fields 0 >>= number_of 0 2046 in
    let of_bits = field_at fields 1 >>= number_of 1 49152 in
    test_within IsStreamRow (length fields == 2) (of_apid >>= λ apid. of_bits >>= row_by apid)
    (λ two. bind_within IsStreamRow (λ apid. of_bits >>= row_by apid) of_apid
    (λ apid is. bind_within IsStreamRow (row_by apid) of_bits
    (λ bits are.
    let a = subst (λ o. IfSome o (IsBetween 0 2046)) is (field_between 0 2046 (field_at fields 0)) in
    let b = subst (λ o. IfSome o (IsBetween 1 49152)) are (field_between 1 49152 (field_at fields 1)) in
    record { apid = a.1; some = b.0; most = b.1 })))

-- ---- one more row

-- a row that may follow others
record Follows (before : List StreamRow) (row : StreamRow) : Type 0 where
  right : IsStreamRow row
  few : length before < 64
  new : list_any (has_apid row.apid) before ≡ false

tested : (before : List StreamRow) (row other : StreamRow) → IsStreamRow row
    → cond (nat_lt (length before) 64 && not (list_any (has_apid row.apid) before)) (Some row) None ≡ Some other → Follows before other
tested before row other right is = elim (cases_Bool (nat_lt (length before) 64 && not (list_any (has_apid row.apid) before))) [
  | inl may ↦
      let parts = and_parts (nat_lt (length before) 64) (not (list_any (has_apid row.apid) before)) may in
      let same : Some row ≡ Some other = sym (ap (λ b. cond b (Some row) None) may) ∙ is in
      let e : row ≡ other = cc in
      subst (Follows before) e (record { right = right; few = ltb-true _ _ parts.0; new = not-true _ parts.1 })
  | inr may_not ↦ absurd (let e : ◌≡◌ {A = Option StreamRow} None (Some other) = sym (ap (λ b. cond b (Some row) None) may_not) ∙ is in cc)
]

follows : (before : List StreamRow) (o : Option StreamRow) (row : StreamRow) → IfSome o IsStreamRow
    → (o >>= λ r. cond (nat_lt (length before) 64 && not (list_any (has_apid r.apid) before)) (Some r) None) ≡ Some row → Follows before row
follows before None row right is = absurd cc
follows before (Some r) row right is = tested before r row right is

stream_row_after-follows : (before : List StreamRow) (fields : List (List ℕ)) (row : StreamRow) → stream_row_after before fields ≡ Some row → Follows before row
stream_row_after-follows before fields row is = follows before (stream_row_of fields) row (stream_row_of-right fields) is

-- a row before the last has another APID
other_apid : (before : List StreamRow) (row : StreamRow) (i : ℕ) → Follows before row → i < length before → (stream_at before i).apid ≢ row.apid
other_apid before row i follows within same =
    true≢false (sym (list_any_at (has_apid row.apid) before i no_stream within (eq-eqb (stream_at before i).apid row.apid same)) ∙ follows.new)

at_old : (before : List StreamRow) (row : StreamRow) (i : ℕ) → i < length before → stream_at (before ++ row ∷ []) i ≡ stream_at before i
at_old before row i within = get_or_append_left before (row ∷ []) no_stream i within

at_last : (before : List StreamRow) (row : StreamRow) (i : ℕ) → i ≡ length before → stream_at (before ++ row ∷ []) i ≡ row
at_last before row i is =
    get_or-append_right before (row ∷ []) (length before) i no_stream refl (omega arith)
    ∙ ap (λ k. get_or (row ∷ []) k no_stream) (let none : i - length before ≡ 0 = omega arith in none)

apart-more : (before : List StreamRow) (row : StreamRow) → AreStreams before → Follows before row
    → (i j : ℕ) → i < length (before ++ row ∷ []) → j < length (before ++ row ∷ []) → (stream_at (before ++ row ∷ []) i).apid ≡ (stream_at (before ++ row ∷ []) j).apid → i ≡ j
apart-more before row are follows i j first second same =
    let size = length-append before (row ∷ []) in
    elim (cases_lt i (length before)) [
      | inl old ↦ elim (cases_lt j (length before)) [
        | inl older ↦ are.apart i j old older (sym (ap (λ (r : StreamRow). r.apid) (at_old before row i old)) ∙ (same ∙ ap (λ (r : StreamRow). r.apid) (at_old before row j older)))
        | inr last ↦ absurd (other_apid before row i follows old (sym (ap (λ (r : StreamRow). r.apid) (at_old before row i old)) ∙ (same ∙ ap (λ (r : StreamRow). r.apid) (at_last before row j (omega arith)))))
      ]
      | inr last ↦ elim (cases_lt j (length before)) [
        | inl older ↦ absurd (other_apid before row j follows older (sym (ap (λ (r : StreamRow). r.apid) (at_old before row j older)) ∙ (sym same ∙ ap (λ (r : StreamRow). r.apid) (at_last before row i (omega arith)))))
        | inr final ↦ omega arith
      ]
    ]

AreStreams-more : (before : List StreamRow) (row : StreamRow) → AreStreams before → Follows before row → AreStreams (before ++ row ∷ [])
AreStreams-more before row are follows = record {
  right = All-push IsStreamRow before row are.right follows.right;
  few = omega (arith, length-append before (row ∷ []), follows.few);
  apart = apart-more before row are follows;
}

AreStreams-none : AreStreams []
AreStreams-none = record { right = All-nil IsStreamRow; few = omega arith; apart = λ i j first second same. absurd (omega arith) }

-- ---- the rows of records

with_row : (before : List StreamRow) (o : Option StreamRow) → AreStreams before → ((row : StreamRow) → o ≡ Some row → Follows before row) → AreStreams (before ++ option_to_list o)
with_row before None are each = subst AreStreams (sym (append-nil before)) are
with_row before (Some row) are each = AreStreams-more before row are (each row refl)

rows_from-streams : (before : List StreamRow) (records : List (List (List ℕ))) → AreStreams before → AreStreams (rows_from stream_row_after before records)
rows_from-streams before [] are = are
rows_from-streams before (fields ∷ records) are =
    rows_from-streams (before ++ option_to_list (stream_row_after before fields)) records (with_row before (stream_row_after before fields) are (stream_row_after-follows before fields))

pub rows_of-streams : (records : List (List (List ℕ))) → AreStreams (rows_from stream_row_after [] records)
rows_of-streams records = rows_from-streams [] records AreStreams-none

-- ---- the index of each row

-- among the rows before one, the index of each that has a row's APID, and none if no row has it
pub record AreIndexesBefore (rows : List StreamRow) (until : ℕ) (indexes : List (Option ℕ)) : Type 0 where
  pub len : length indexes ≡ 2048
  pub own : (k : ℕ) → k < until → get_or indexes (stream_at rows k).apid None ≡ Some k
  pub none : (apid : ℕ) → ((k : ℕ) → k < until → (stream_at rows k).apid ≢ apid) → get_or indexes apid None ≡ None

-- the index of the one row with an APID
pub stream_of-index : (rows : List StreamRow) (apid i : ℕ) → AreStreams rows → i < length rows → (stream_at rows i).apid ≡ apid → stream_of rows apid ≡ Some i
stream_of-index rows apid i are within is =
    let here = position_or_len_is (has_apid apid) rows i no_stream (omega arith)
    (λ k before. let less : k < length rows = omega arith in elim (cases_Bool (has_apid apid (stream_at rows k))) [
      | inl has ↦ absurd (let same = are.apart k i less within (eqb-true _ _ has ∙ sym is) in omega arith)
      | inr has_not ↦ has_not
    ])
    (λ _. eq-eqb _ _ is) in
    rw (here, lt-ltb i (length rows) within) refl

abbrev first : List StreamRow → ℕ → ℕ
first rows apid = position_or_len (has_apid apid) rows

-- a list with an entry for each row answers for each APID
AreIndexes-all : (rows : List StreamRow) (indexes : List (Option ℕ)) → AreIndexesBefore rows (length rows) indexes → AreIndexesOf rows indexes
AreIndexes-all rows indexes are apid = go (nat_lt (first rows apid) (length rows)) refl where
  go : (inside : Bool) → nat_lt (first rows apid) (length rows) ≡ inside → get_or indexes apid None ≡ stream_of rows apid
  go true is =
      let within = ltb-true _ _ is in
      let same = eqb-true _ _ (passes_at_first (has_apid apid) rows no_stream within) in
      subst (λ n. get_or indexes n None ≡ Some (first rows apid)) same (are.own (first rows apid) within) ∙ ap (λ b. cond b (Some (first rows apid)) None) (sym is)
  go false is =
      let none = are.none apid (λ k within same. true≢false (sym (eq-eqb _ _ same) ∙ fails_before_first (has_apid apid) rows k no_stream (let long = ltb-false _ _ is in omega arith))) in
      none ∙ ap (λ b. cond b (Some (first rows apid)) None) (sym is)

pub AreIndexes-end : (rows : List StreamRow) (until : ℕ) (indexes : List (Option ℕ)) → until ≡ length rows → AreIndexesBefore rows until indexes → AreIndexesOf rows indexes
AreIndexes-end rows until indexes is are = AreIndexes-all rows indexes (subst (λ n. AreIndexesBefore rows n indexes) is are)

-- the entry of one more row
pub AreIndexes-more : (rows : List StreamRow) (until : ℕ) (indexes : List (Option ℕ)) → AreStreams rows → until < length rows
    → AreIndexesBefore rows until indexes → AreIndexesBefore rows (until + 1) (set indexes (stream_at rows until).apid (Some until))
AreIndexes-more rows until indexes streams within are =
    let here = (stream_at rows until).apid in
    let small : here < length indexes = omega (arith, are.len, (All-get_or IsStreamRow rows until no_stream within streams.right).apid) in
    record {
      len = length-set indexes here (Some until) ∙ are.len;
      own = below_more (λ k. get_or (set indexes here (Some until)) (stream_at rows k).apid None ≡ Some k) until
          (λ k before. get_or-set_other indexes here (stream_at rows k).apid (Some until) None (λ same. absurd (let one = streams.apart k until (omega arith) within same in omega arith)) ∙ are.own k before)
          (get_or-set_same indexes here (Some until) None small);
      none = λ apid others. get_or-set_other indexes here apid (Some until) None (λ same. others until (omega arith) (sym same)) ∙ are.none apid (λ k before. others k (omega arith));
    }

-- the row that an index is of
pub stream_of-own : (rows : List StreamRow) (apid : ℕ) → IfSome (stream_of rows apid) (λ index. (stream_at rows index).apid ≡ apid)
stream_of-own rows apid = go (nat_lt (first rows apid) (length rows)) refl where
  go : (inside : Bool) → nat_lt (first rows apid) (length rows) ≡ inside → IfSome (cond inside (Some (first rows apid)) None) (λ index. (stream_at rows index).apid ≡ apid)
  go true is = eqb-true _ _ (passes_at_first (has_apid apid) rows no_stream (ltb-true _ _ is))
  go false is = tt
