-- The records of a text: which were read, which are rows, and the first that is not.
use Rattle.std.specs.List.{cons_option, filter_map}
use Rattle.std.specs.Option.{option_to_list}
use Rattle.std.proofs.Common.{◌≡◌, ℕ, zero, suc, ◌+◌, ◌<◌, ◌≤◌, ◌==◌, Bool, true, false, cond, List, [], ◌∷◌, ◌++◌, length, Option, Some, None, refl, ap, arith, Bor, ◌-◌, sym, ◌∙◌, append-nil, append_assoc}
use Rattle.std.proofs.lemmas.Bool.{true≢false, false≢true}
use Rattle.std.proofs.lemmas.List.{length-append}
use Rattle.csv.specs.Machine.{Read, next_record, step, in_field, start_field, start_record, ends_at_end, is_end, fields_after, field_after, ends_with, carriage_return}
use Rattle.csv.specs.Reading.{Reached, records_from, default_config, ReadRecord, source_of, strip_bom, is_bom, is_flexible, ExplainsRead}
use Rattle.csv.specs.declared.error.ErrorKind.{ErrorKind}
use Rattle.csv.specs.declared.error.ErrorKind.TheVariants as kind
use Rattle.csv.specs.declared.parser.Action.{Action}
use Rattle.csv.specs.declared.parser.Action.TheVariants as act
use Rattle.csv.specs.declared.parser.State.{State}
use Rattle.csv.specs.declared.parser.State.TheVariants as st
use Rattle.csv.specs.declared.reader.Reader.{Reader}
use Rattle.csv.proofs.ReadFacts.{rows-more}
use Rattle.side_tables.specs.Texts.{Grammar, alone, records_of, rows_from, bad_from, bad_row, AreRowsOf, CanCome}

-- ---- after a record the end of the text ends no further record

-- if the action ends the record, the end of the text ends no further record in the new state
record IsQuiet (after : State × Action) : Type 0 where
  open_end : is_end after.1 ≡ true → ends_at_end after.0 ≡ false

IsQuiet-cond : (b : Bool) (p q : State × Action) → IsQuiet p → IsQuiet q → IsQuiet (cond b p q)
IsQuiet-cond true p q quiet other = quiet
IsQuiet-cond false p q quiet other = other

not_end : (s : State) (a : Action) → is_end a ≡ false → IsQuiet (s, a)
not_end s a not = record { open_end = λ is. absurd cc }

after_quiet : (r : Bool) → ends_at_end (cond r st.AfterCr st.StartRecord) ≡ false
after_quiet true = refl
after_quiet false = refl

in_field-quiet : (c : ℕ) → IsQuiet (in_field default_config c)
in_field-quiet c =
    IsQuiet-cond _ _ _ (not_end st.StartField act.EndField refl)
    (IsQuiet-cond (ends_with default_config.terminator c) _ _ (record { open_end = λ is. after_quiet (c == carriage_return) }) (not_end st.InField act.Copy refl))

start_field-quiet : (c : ℕ) → IsQuiet (start_field default_config c)
start_field-quiet c = IsQuiet-cond _ _ _ (not_end st.InQuoted act.Skip refl) (in_field-quiet c)

start_record-quiet : (c : ℕ) → IsQuiet (start_record default_config c)
start_record-quiet c = IsQuiet-cond _ _ _ (not_end st.StartRecord act.Skip refl) (start_field-quiet c)

step-quiet : (s : State) (c : ℕ) → IsQuiet (step default_config s c)
step-quiet st.StartRecord c = start_record-quiet c
step-quiet st.StartField c = start_field-quiet c
step-quiet st.InField c = in_field-quiet c
step-quiet st.InQuoted c = IsQuiet-cond _ _ _ (not_end st.AfterQuote act.Skip refl) (not_end st.InQuoted act.Copy refl)
step-quiet st.InEscape c = not_end st.InQuoted act.Copy refl
step-quiet st.AfterQuote c = IsQuiet-cond _ _ _ (not_end st.InQuoted act.Copy refl) (in_field-quiet c)
step-quiet st.InComment c = IsQuiet-cond _ _ _ (not_end st.StartRecord act.Skip refl) (not_end st.InComment act.Skip refl)
step-quiet st.AfterCr c = IsQuiet-cond _ _ _ (not_end st.StartRecord act.Skip refl) (start_record-quiet c)

-- ---- a record uses up some of the text

-- what is left after a record, and the state
record Takes (xs : List ℕ) (p : Read) : Type 0 where
  shorter : length p.2 ≤ length xs
  quiet : ends_at_end p.1 ≡ false

at_end : (ends : Bool) (fields : List (List ℕ)) (p : Read) → cond ends (Some (fields, st.StartRecord, [])) None ≡ Some p → Takes [] p
at_end true fields p is = let same : (fields, st.StartRecord, []) ≡ p = cc in rw (← same) (record { shorter = omega arith; quiet = refl })
at_end false fields p is = absurd cc

more : (ends : Bool) (next : State × Action) (fields : List (List ℕ)) (rest : List ℕ) (c : ℕ) (further : Option Read) (p : Read) → is_end next.1 ≡ ends → IsQuiet next
    → (further ≡ Some p → Takes rest p) → cond ends (Some (fields, next.0, rest)) further ≡ Some p → Takes (c ∷ rest) p
more true next fields rest c further p end quiet go is =
    let same : (fields, next.0, rest) ≡ p = cc in
    rw (← same) (record { shorter = omega arith; quiet = quiet.open_end end })
more false next fields rest c further p end quiet go is =
    let t = go is in
    record { shorter = omega arith; quiet = t.quiet }

next-takes : (s : State) (fields : List (List ℕ)) (field xs : List ℕ) (p : Read) → next_record default_config s fields field xs ≡ Some p → Takes xs p
unfolding next_record
next-takes s fields field [] p is = at_end (ends_at_end s) (fields ++ (field ∷ [])) p is
next-takes s fields field (c ∷ rest) p is =
    more (is_end (step default_config s c).1) (step default_config s c) (fields_after (step default_config s c).1 fields field) rest c
    (next_record default_config (step default_config s c).0 (fields_after (step default_config s c).1 fields field) (field_after (step default_config s c).1 c field) rest) p
    refl (step-quiet s c)
    (next-takes (step default_config s c).0 (fields_after (step default_config s c).1 fields field) (field_after (step default_config s c).1 c field) rest p) is

less : (ends : Bool) (next : State × Action) (fields : List (List ℕ)) (rest : List ℕ) (c : ℕ) (further : Option Read) (p : Read)
    → (further ≡ Some p → Takes rest p) → cond ends (Some (fields, next.0, rest)) further ≡ Some p → length p.2 < length (c ∷ rest)
less true next fields rest c further p go is = let same : (fields, next.0, rest) ≡ p = cc in rw (← same) (omega arith)
less false next fields rest c further p go is = let t = go is in let shorter = t.shorter in omega arith

none_at_end : (ends : Bool) (fields : List (List ℕ)) (p : Read) → ends ≡ false → cond ends (Some (fields, st.StartRecord, [])) None ≡ Some p → ⊥
none_at_end true fields p quiet is = cc
none_at_end false fields p quiet is = cc

-- from a state in which the end of the text ends no record, at least a byte is taken
next-less : (s : State) (xs : List ℕ) (p : Read) → ends_at_end s ≡ false → next_record default_config s [] [] xs ≡ Some p → length p.2 < length xs
unfolding next_record
next-less s [] p quiet is = absurd (none_at_end (ends_at_end s) ([] ∷ []) p quiet is)
next-less s (c ∷ rest) p quiet is =
    less (is_end (step default_config s c).1) (step default_config s c) (fields_after (step default_config s c).1 [] []) rest c
    (next_record default_config (step default_config s c).0 (fields_after (step default_config s c).1 [] []) (field_after (step default_config s c).1 c []) rest) p
    (next-takes (step default_config s c).0 (fields_after (step default_config s c).1 [] []) (field_after (step default_config s c).1 c []) rest p) is

-- so there are no more records than bytes
pub reached-count : (s s2 : State) (xs ys : List ℕ) (rows : List (List (List ℕ))) → ends_at_end s ≡ false → Reached default_config s xs rows s2 ys → length rows + length ys ≤ length xs
unfolding Reached
reached-count s s2 xs ys [] quiet r = rw r.1 (omega arith)
reached-count s s2 xs ys (row ∷ rows) quiet r =
    let t = next-takes s [] [] xs r.0 r.1 in
    let one = next-less s xs r.0 quiet r.1 in
    let rest = reached-count r.0.1 s2 r.0.2 ys rows t.quiet r.3 in
    omega arith

-- the records read so far are the first of all
pub records-reached : (n m : ℕ) (s s2 : State) (xs ys : List ℕ) (rows : List (List (List ℕ))) → n ≡ length rows + m → Reached default_config s xs rows s2 ys
    → records_from default_config n s xs ≡ rows ++ records_from default_config m s2 ys
unfolding Reached records_from
records-reached n m s s2 xs ys [] size r = let same : n ≡ m = omega arith in rw (same, r.0, r.1) refl
records-reached zero m s s2 xs ys (row ∷ rows) size r = absurd (omega arith)
records-reached (suc n) m s s2 xs ys (row ∷ rows) size r =
    let rest = records-reached n m r.0.1 s2 r.0.2 ys rows (omega arith) r.3 in
    rw (r.1, r.2) (ap (λ more. r.0.0 ∷ more) rest)

-- after the last there are none
pub records-none : (n : ℕ) (s : State) (xs : List ℕ) → next_record default_config s [] [] xs ≡ None → records_from default_config n s xs ≡ []
unfolding records_from
records-none zero s xs none = refl
records-none (suc n) s xs none = rw none refl

-- ---- records that are rows, and the first record that is not

-- The records so far are these rows, and what further records are goes on from them.
pub record AreGood {R : Type 0} (row_after : Grammar R) (raw : List (List (List ℕ))) (rows : List R) : Type 0 where
  pub size : length raw ≡ length rows
  pub rest : (more : List (List (List ℕ))) → rows_from row_after [] (raw ++ more) ≡ rows_from row_after rows more
  pub bad : (more : List (List (List ℕ))) → bad_from row_after [] 1 (raw ++ more) ≡ bad_from row_after rows (1 + length rows) more

pub AreGood-none : {R : Type 0} (row_after : Grammar R) → AreGood row_after [] []
AreGood-none row_after = record { size = refl; rest = λ more. refl; bad = λ more. refl }

-- a row as the next record
rows_from-row : {R : Type 0} (row_after : Grammar R) (rows : List R) (fields : List (List ℕ)) (row : R) (more : List (List (List ℕ))) → row_after rows fields ≡ Some row → rows_from row_after rows (fields ∷ more) ≡ rows_from row_after (rows ++ row ∷ []) more
rows_from-row row_after rows fields row more is = rw is refl

bad_from-row : {R : Type 0} (row_after : Grammar R) (rows : List R) (n : ℕ) (fields : List (List ℕ)) (row : R) (more : List (List (List ℕ))) → row_after rows fields ≡ Some row → bad_from row_after rows n (fields ∷ more) ≡ bad_from row_after (rows ++ row ∷ []) (n + 1) more
bad_from-row row_after rows n fields row more is = rw is refl

pub AreGood-more : {R : Type 0} (row_after : Grammar R) (raw : List (List (List ℕ))) (rows : List R) (fields : List (List ℕ)) (row : R)
    → AreGood row_after raw rows → row_after rows fields ≡ Some row → AreGood row_after (raw ++ fields ∷ []) (rows ++ row ∷ [])
AreGood-more {R = R} row_after raw rows fields row good is =
    let next : 1 + length rows + 1 ≡ 1 + length (rows ++ row ∷ []) = omega (arith, length-append rows (row ∷ [])) in
    record {
      size = length-append raw (fields ∷ []) ∙ ap (λ (n : ℕ). n + 1) good.size ∙ sym (length-append rows (row ∷ []));
      rest = λ more.
          ap (rows_from row_after []) (append_assoc raw (fields ∷ []) more) ∙ good.rest (fields ∷ more) ∙ rows_from-row row_after rows fields row more is;
      bad = λ more.
          ap (bad_from row_after [] 1) (append_assoc raw (fields ∷ []) more) ∙ good.bad (fields ∷ more) ∙ bad_from-row row_after rows (1 + length rows) fields row more is
          ∙ ap (λ (n : ℕ). bad_from row_after (rows ++ row ∷ []) n more) next;
    }

bad_from-bad : {R : Type 0} (row_after : Grammar R) (rows : List R) (n : ℕ) (fields : List (List ℕ)) (more : List (List (List ℕ))) → row_after rows fields ≡ None → bad_from row_after rows n (fields ∷ more) ≡ Some n
bad_from-bad row_after rows n fields more none = rw none refl

-- the rows of records that hang on no rows before them
pub rows_from-alone : {R : Type 0} (row_of : List (List ℕ) → Option R) (rows : List R) (records : List (List (List ℕ))) → rows_from (alone row_of) rows records ≡ rows ++ filter_map row_of records
rows_from-alone row_of rows [] = sym (append-nil rows)
rows_from-alone {R = R} row_of rows (fields ∷ records) = rows_from-alone row_of (rows ++ option_to_list (row_of fields)) records ∙ joined (row_of fields)
  where
    joined : (o : Option R) → (rows ++ option_to_list o) ++ filter_map row_of records ≡ rows ++ cons_option o (filter_map row_of records)
    joined None = ap (λ l. l ++ filter_map row_of records) (append-nil rows)
    joined (Some row) = append_assoc rows (row ∷ []) (filter_map row_of records)

without_mark : (mark : Bool) (a b c : ℕ) (rest : List ℕ) → length (cond mark rest (a ∷ b ∷ c ∷ rest)) ≤ length (a ∷ b ∷ c ∷ rest)
without_mark true a b c rest = omega arith
without_mark false a b c rest = omega arith

strip-length : (xs : List ℕ) → length (strip_bom xs) ≤ length xs
unfolding strip_bom
strip-length [] = omega arith
strip-length (a ∷ []) = omega arith
strip-length (a ∷ b ∷ []) = omega arith
strip-length (a ∷ b ∷ c ∷ rest) = without_mark (is_bom a b c) a b c rest

-- all records are rows
pub AreRowsOf-end : {R : Type 0} (row_after : Grammar R) (text : List ℕ) (raw : List (List (List ℕ))) (rows : List R) (s : State) (ys : List ℕ) → length text ≤ 1048576
    → AreGood row_after raw rows → Reached default_config st.StartRecord (strip_bom text) raw s ys → next_record default_config s [] [] ys ≡ None → AreRowsOf row_after text rows
AreRowsOf-end row_after text raw rows s ys within good reached none =
    let count = reached-count st.StartRecord s (strip_bom text) ys raw refl reached in
    let left : length (strip_bom text) + 1 ≡ length raw + (length (strip_bom text) + 1 - length raw) = omega arith in
    let all : records_of text ≡ raw ++ [] = records-reached (length (strip_bom text) + 1) (length (strip_bom text) + 1 - length raw) st.StartRecord s (strip_bom text) ys raw left reached ∙ ap (λ l. raw ++ l) (records-none (length (strip_bom text) + 1 - length raw) s ys none) in
    record { within = within; right = rw all (good.bad []); are = rw all (sym (good.rest [])) }

-- a record that is not a row, after others that are
bad_row-reached : {R : Type 0} (row_after : Grammar R) (text : List ℕ) (raw : List (List (List ℕ))) (rows : List R) (bad : List (List ℕ)) (s : State) (ys : List ℕ)
    → AreGood row_after raw rows → row_after rows bad ≡ None → Reached default_config st.StartRecord (strip_bom text) (raw ++ bad ∷ []) s ys
    → (bad_row row_after text ≡ Some (length rows + 1)) × (length rows < length text)
bad_row-reached row_after text raw rows bad s ys good none reached =
    let count = reached-count st.StartRecord s (strip_bom text) ys (raw ++ bad ∷ []) refl reached in
    let size : length (raw ++ bad ∷ []) ≡ length raw + 1 = length-append raw (bad ∷ []) in
    let stripped = strip-length text in
    let many = good.size in
    let left : length (strip_bom text) + 1 ≡ length (raw ++ bad ∷ []) + (length (strip_bom text) + 1 - length (raw ++ bad ∷ [])) = omega arith in
    let more = records_from default_config (length (strip_bom text) + 1 - length (raw ++ bad ∷ [])) s ys in
    let all : records_of text ≡ raw ++ bad ∷ more = records-reached (length (strip_bom text) + 1) (length (strip_bom text) + 1 - length (raw ++ bad ∷ [])) st.StartRecord s (strip_bom text) ys (raw ++ bad ∷ []) left reached ∙ append_assoc raw (bad ∷ []) more in
    let number : 1 + length rows ≡ length rows + 1 = omega arith in
    (rw all (good.bad (bad ∷ more) ∙ bad_from-bad row_after rows (1 + length rows) bad more none ∙ ap Some number), omega arith)

-- the same for a reader that reads it
pub bad_row-read : {R : Type 0} (row_after : Grammar R) (text : Bor (List ℕ)) (old new : Reader (Bor (List ℕ))) (y : List ℕ) (raw : List (List (List ℕ))) (rows : List R) (bad : List (List ℕ))
    → old.config ≡ default_config → source_of (λ s. Some s.now) old ≡ Some y → Reached default_config st.StartRecord (strip_bom text.now) raw old.state y
    → AreGood row_after raw rows → row_after rows bad ≡ None → ReadRecord (λ s. Some s.now) old new true bad
    → (bad_row row_after text.now ≡ Some (length rows + 1)) × (length rows < length text.now)
bad_row-read row_after text old new y raw rows bad config source reached good none read =
    let m = rows-more (λ (s : Bor (List ℕ)). Some s.now) old new bad default_config st.StartRecord (strip_bom text.now) y raw config source reached read in
    bad_row-reached row_after text.now raw rows bad new.state m.0 good none m.2

-- if a reader that takes records of any length can't read one, the record itself has no fault
pub CanCome-flexible : {R : Type 0} (rem : R → Option (List ℕ)) (old new : Reader R) (k : ErrorKind) → is_flexible old ≡ true → ExplainsRead rem old new false k → CanCome k
CanCome-flexible rem old new (kind.Io e) flexible why = tt
CanCome-flexible rem old new kind.OutOfMemory flexible why = tt
CanCome-flexible rem old new (kind.UnequalLengths pos expected len) flexible why = true≢false (sym flexible ∙ why.0)
CanCome-flexible rem old new (kind.Utf8 pos err) flexible why = false≢true why.0
CanCome-flexible rem old new (kind.Serialize text) flexible why = why
CanCome-flexible rem old new (kind.Deserialize pos err) flexible why = why
