-- Names that right words give are apart and granted, so that what each output made is kept under its name.
use Rattle.std.specs.FinMap as map
use Rattle.std.specs.List.{Contains}
use Rattle.std.specs.Option.{option_map}
use Rattle.std.specs.Prelude.{IsSome}
use Rattle.std.specs.Str.{bytes_eq}
use Rattle.std.proofs.Common.{◌≡◌, ℕ, ◌+◌, ◌==◌, ◌&&◌, ◌||◌, Bool, true, false, not, cond, is_some, List, [], ◌∷◌, ◌++◌, length, Option, Some, None, Ok, unwrap_or, IfSome, refl, sym, ap, ◌∙◌, subst, inl, inr, ◌⊎◌, codes, append_assoc, append-nil, arith, ◌≢◌, zero, suc, IsTrue, Result, Err}
use Rattle.std.proofs.lemmas.Option.{same_Some}
use Rattle.std.proofs.lemmas.Slice.Eq.{bytes_eq-Decides}
use Rattle.desk_ports.specs.Courses.{Outputs, Ran, Course}
use Rattle.desk_ports.specs.Meanings.{Kept, Meanings, kept_after, kept_at, made, Counts}
use Rattle.desk_ports.specs.declared.desk.Inlet.TheVariants as inlet
use Rattle.desk_ports.specs.declared.desk.Outlet.TheVariants as outlet
use Rattle.desk_ports.proofs.Desks.{kept_apart, kept_here}
use Rattle.pocket_cmd.specs.Apart.{AreApart, AreKeptAsMade, IsNameToRead, IsNameToWrite}
use Rattle.pocket_cmd.specs.Command.{Command, Names, command_of, name_at, names_of, AreGiven}
use Rattle.pocket_cmd.specs.Courses.{bad_script_row_of, course_of, DataFault}
use Rattle.pocket_cmd.specs.Openings.{all_finished, all_opened, with_input, with_output, with_report, with_text, AreGranted, AreTold, GrantsNames}
use Rattle.pocket_cmd.specs.Outcome.{OnceAllRead, RunStands, Stands, left_to_open, IsAnswered, NoneRose, answer_to}
use Rattle.pocket_cmd.specs.Status.{status_by}
use Rattle.pocket_cmd.specs.Unfed.{EndsBy}
use Rattle.pocket_cmd.specs.Verbs.{KeyRow, kind_of, verb_rows}
use Rattle.pocket_cmd.specs.Words.{Words, fits, fits_key, has_key, is_name_read, is_right, is_split, is_text, is_name_written, key_in, name_of, text_in, text_of, wrong_word, AssignsToOne, keys_at, read_keys, written_keys}
use Rattle.pocket_cmd.specs.declared.status.Refusal.{Refusal}
use Rattle.pocket_cmd.specs.declared.status.Refusal.TheVariants as refusal
use Rattle.pocket_cmd.specs.declared.status.Status.{Status}
use Rattle.pocket_cmd.specs.declared.status.Status.TheVariants.{Refused}
use Rattle.pocket_cmd.specs.declared.verbs.Port.{Port}
use Rattle.pocket_cmd.specs.declared.verbs.Port.TheVariants as port
use Rattle.pocket_cmd.specs.declared.verbs.Port.TheVariants.{Side, Input, Output, Report}
use Rattle.pocket_cmd.specs.declared.verbs.ValueKind.{ValueKind}
use Rattle.pocket_cmd.specs.declared.verbs.ValueKind.TheVariants.{Name}
use Rattle.pocket_cmd.proofs.Given.{AreSound, IsCommand-command_of, IsKeyAt, both, key_at, key_for, keys_of, name_of-key_at, text_at, later}

-- ---- tests

bytes_eq-same : (text : List ℕ) → bytes_eq text text ≡ true
bytes_eq-same text = (bytes_eq-Decides text text).1 refl

bytes_eq-other : (one other : List ℕ) → (one ≡ other → ⊥) → bytes_eq one other ≡ false
bytes_eq-other one other differ = by_test (bytes_eq one other) refl where
  by_test : (b : Bool) → bytes_eq one other ≡ b → b ≡ false
  by_test true is = absurd (differ ((bytes_eq-Decides one other).0 is))
  by_test false is = refl

no_both : {b : Bool} → b ≡ true → b ≡ false → ⊥
no_both is other = cc

-- ---- words with one more

-- a text that words give to a key is given by the first of them, or else by the last
text_of-push : (words : List (List ℕ)) (word key text : List ℕ) → text_of (words ++ word ∷ []) key ≡ Some text
    → (text_of words key ≡ Some text) ⊎ (has_key key word ≡ true) × (text_in word ≡ text)
text_of-push [] word key text e = by_test (has_key key word) refl e where
  same : {x y : List ℕ} → Some x ≡ Some y → x ≡ y
  same e = cc

  by_test : (b : Bool) → has_key key word ≡ b → cond b (Some (text_in word)) None ≡ Some text → (text_of [] key ≡ Some text) ⊎ (has_key key word ≡ true) × (text_in word ≡ text)
  by_test true is e = inr (is, same e)
  by_test false is e = absurd cc
text_of-push (first ∷ words) word key text e = by_test (has_key key first) refl e (text_of-push words word key text) where
  by_test : (b : Bool) → has_key key first ≡ b → cond b (Some (text_in first)) (text_of (words ++ word ∷ []) key) ≡ Some text
      → (text_of (words ++ word ∷ []) key ≡ Some text → (text_of words key ≡ Some text) ⊎ (has_key key word ≡ true) × (text_in word ≡ text))
      → (cond (has_key key first) (Some (text_in first)) (text_of words key) ≡ Some text) ⊎ (has_key key word ≡ true) × (text_in word ≡ text)
  by_test true is e others = inl (ap (λ b. cond b (Some (text_in first)) (text_of words key)) is ∙ e)
  by_test false is e others = by_later (others e) where
    by_later : (text_of words key ≡ Some text) ⊎ (has_key key word ≡ true) × (text_in word ≡ text) → (cond (has_key key first) (Some (text_in first)) (text_of words key) ≡ Some text) ⊎ (has_key key word ≡ true) × (text_in word ≡ text)
    by_later (inl e) = inl (ap (λ b. cond b (Some (text_in first)) (text_of words key)) is ∙ e)
    by_later (inr e) = inr e

-- ---- the key of a port

-- a port is read; else it is written
abbrev is_reading : Port → Bool
is_reading port.Side = true
is_reading port.Input = true
is_reading port.Output = false
is_reading port.Report = false

-- a key of these rows has the name of what is opened there
pub record IsKeyOf (rows : List KeyRow) (at : Port) (key : List ℕ) : Type 0 where
  pub kind : kind_of rows key ≡ Some (Name at)
  pub named : (words : Words) → name_of rows words at ≡ text_of words key

-- words give this name to what is read, or to what is written
abbrev is_taken : List KeyRow → Words → List ℕ → Bool → Bool
is_taken rows words text true = is_name_read rows words text
is_taken rows words text false = is_name_written rows words text

is_taken-named : (rows : List KeyRow) (words : Words) (key text : List ℕ) (at : Port) → IsKeyOf rows at key → text_of words key ≡ Some text → is_taken rows words text (is_reading at) ≡ true
is_taken-named rows words key text at of told = by_port at (by_name (name_of rows words at) (of.named words ∙ told)) where
  by_name : (o : Option (List ℕ)) → o ≡ Some text → is_text o text ≡ true
  by_name None e = absurd cc
  by_name (Some other) e = (bytes_eq-Decides other text).1 (same_Some other text e)

  or_true : (a b : Bool) → b ≡ true → (a || b) ≡ true
  or_true true b e = refl
  or_true false b e = e

  by_port : (at : Port) → is_text (name_of rows words at) text ≡ true → is_taken rows words text (is_reading at) ≡ true
  by_port port.Side is = ap (λ b. b || is_text (name_of rows words port.Input) text) is
  by_port port.Input is = or_true (is_text (name_of rows words port.Side) text) (is_text (name_of rows words port.Input) text) is
  by_port port.Output is = ap (λ b. b || is_text (name_of rows words port.Report) text) is
  by_port port.Report is = or_true (is_text (name_of rows words port.Output) text) (is_text (name_of rows words port.Report) text) is

-- ---- two names

-- two ports with one name: one is read and one is written, and the name is `-`
pub record AreOpposite (at other : Port) (text : List ℕ) : Type 0 where
  pub ways : is_reading at ≡ not (is_reading other)
  pub dash : bytes_eq text (codes "-") ≡ true

turned : (at other : Port) (text : List ℕ) → AreOpposite at other text → AreOpposite other at text
turned at other text apart = record { ways = by_ways (is_reading at) (is_reading other) apart.ways; dash = apart.dash } where
  by_ways : (one two : Bool) → one ≡ not two → two ≡ not one
  by_ways one true is = ap not (sym is)
  by_ways one false is = ap not (sym is)

-- a name that fits after these words is opposite to that of a port of theirs
fitting : (rows : List KeyRow) (words : Words) (key text : List ℕ) (other : Port) → IsKeyOf rows other key → text_of words key ≡ Some text → (at : Port) → fits rows words (Name at) text ≡ true → AreOpposite at other text
fitting rows words key text other of told at fit =
    let new = new_name (length text == 0) (is_taken rows words text (is_reading at)) (bytes_eq text (codes "-")) (is_taken rows words text (not (is_reading at))) (by_port at fit) in
    let apart = by_ways (is_reading at) (is_reading other) new.0 new.1 (is_taken-named rows words key text other of told) in
    record { ways = apart.0; dash = apart.1 }
  where
    -- the tests of a new name
    new_name : (empty own dash opposite : Bool) → (not empty && not own && (dash || not opposite)) ≡ true → (own ≡ false) × ((opposite ≡ true) → dash ≡ true)
    new_name true own dash opposite e = absurd cc
    new_name false true dash opposite e = absurd cc
    new_name false false true opposite e = (refl, λ is. refl)
    new_name false false false true e = absurd cc
    new_name false false false false e = (refl, λ is. absurd cc)

    by_port : (at : Port) → fits rows words (Name at) text ≡ true
        → (not (length text == 0) && not (is_taken rows words text (is_reading at)) && (bytes_eq text (codes "-") || not (is_taken rows words text (not (is_reading at))))) ≡ true
    by_port port.Side fit = fit
    by_port port.Input fit = fit
    by_port port.Output fit = fit
    by_port port.Report fit = fit

    by_ways : (one two : Bool) → is_taken rows words text one ≡ false → (is_taken rows words text (not one) ≡ true → bytes_eq text (codes "-") ≡ true) → is_taken rows words text two ≡ true
        → (one ≡ not two) × (bytes_eq text (codes "-") ≡ true)
    by_ways true true none dash is = absurd (no_both is none)
    by_ways true false none dash is = (refl, dash is)
    by_ways false true none dash is = (refl, dash is)
    by_ways false false none dash is = absurd (no_both is none)

-- ---- the names of two keys

module _ (rows : List KeyRow) (first second : List ℕ) (a b : Port) (of_first : IsKeyOf rows a first) (of_second : IsKeyOf rows b second) (differ : bytes_eq first second ≡ false) where
  -- if both have one name among these words, they are opposite
  abbrev pub Apart : List (List ℕ) → Type 0
  Apart words = (text : List ℕ) → text_of words first ≡ Some text → text_of words second ≡ Some text → AreOpposite a b text

  -- the last word has the key, and its text fits
  last_fits : (words : List (List ℕ)) (word key text : List ℕ) (at : Port) → kind_of rows key ≡ Some (Name at) → is_right rows words word ≡ true → has_key key word ≡ true → text_in word ≡ text → fits rows words (Name at) text ≡ true
  last_fits words word key text at has right keyed is_text =
      let parts = both (is_split word && not (is_some (text_of words (key_in word)))) (fits_key rows words (kind_of rows (key_in word)) (text_in word)) right in
      let own = (bytes_eq-Decides (key_in word) key).0 (both (is_split word) (bytes_eq (key_in word) key) keyed).1 in
      subst (λ t. fits rows words (Name at) t ≡ true) is_text
      (subst (λ kind. fits_key rows words kind (text_in word) ≡ true) has (subst (λ k. fits_key rows words (kind_of rows k) (text_in word) ≡ true) own parts.1))

  one_more : (words : List (List ℕ)) (word : List ℕ) → is_right rows words word ≡ true → Apart words → Apart (words ++ word ∷ [])
  one_more words word right apart text e f = by_place (text_of-push words word first text e) (text_of-push words word second text f) where
    by_place : (text_of words first ≡ Some text) ⊎ (has_key first word ≡ true) × (text_in word ≡ text) → (text_of words second ≡ Some text) ⊎ (has_key second word ≡ true) × (text_in word ≡ text) → AreOpposite a b text
    by_place (inl e) (inl f) = apart text e f
    by_place (inr (keyed, is)) (inl f) = fitting rows words second text b of_second f a (last_fits words word first text a of_first.kind right keyed is)
    by_place (inl e) (inr (keyed, is)) = turned b a text (fitting rows words first text a of_first e b (last_fits words word second text b of_second.kind right keyed is))
    by_place (inr (keyed, is)) (inr (other, same)) =
        let own = (bytes_eq-Decides (key_in word) first).0 (both (is_split word) (bytes_eq (key_in word) first) keyed).1 in
        let own_too = (bytes_eq-Decides (key_in word) second).0 (both (is_split word) (bytes_eq (key_in word) second) other).1 in
        absurd (no_both ((bytes_eq-Decides first second).1 (sym own ∙ own_too)) differ)

  all_words : (words more : List (List ℕ)) → wrong_word rows words more ≡ None → Apart words → Apart (words ++ more)
  all_words words [] right apart = subst Apart (sym (append-nil words)) apart
  all_words words (word ∷ more) right apart = by_test (is_right rows words word) refl right (λ is. all_words (words ++ word ∷ []) more is) where
    by_test : (b : Bool) → is_right rows words word ≡ b → cond b (wrong_word rows (words ++ word ∷ []) more) (Some (length words + 1)) ≡ None
        → (wrong_word rows (words ++ word ∷ []) more ≡ None → Apart (words ++ word ∷ []) → Apart ((words ++ word ∷ []) ++ more)) → Apart (words ++ word ∷ more)
    by_test false is e later = absurd cc
    by_test true is e later = subst Apart (append_assoc words (word ∷ []) more) (later e (one_more words word is apart))

  none : Apart []
  none text e f = absurd cc

  pub apart : (words : List (List ℕ)) → wrong_word rows [] words ≡ None → Apart words
  apart words right = all_words [] words right none

-- ---- the names of a command

-- a name is what words give to the key of its port
named : (rows : List KeyRow) (words : Words) (at : Port) (text : List ℕ) → IfSome (key_at rows at) (IsKeyAt rows at) → name_of rows words at ≡ Some text → (key : List ℕ) × IsKeyOf rows at key × (text_of words key ≡ Some text)
named rows words at text key e = by_key (key_at rows at) refl key where
  by_key : (o : Option (List ℕ)) → key_at rows at ≡ o → IfSome o (IsKeyAt rows at) → (key : List ℕ) × IsKeyOf rows at key × (text_of words key ≡ Some text)
  by_key None is key = absurd (none (sym (name_of-key_at rows words at ∙ ap (text_at words) is) ∙ e)) where
    none : None ≡ Some text → ⊥
    none e = cc
  by_key (Some key) is key_is =
      let at_key : (words : Words) → name_of rows words at ≡ text_of words key = λ words. name_of-key_at rows words at ∙ ap (text_at words) is in
      (key, record { kind = key_is.kind; named = at_key }, sym (at_key words) ∙ e)

module _ (command : Command) (sound : AreSound (verb_rows command.0) command.1) where
  opposite : (a b : Port) → (◌≡◌ {A = Option ValueKind} (Some (Name a)) (Some (Name b)) → ⊥) → (text : List ℕ) → name_at command a ≡ Some text → name_at command b ≡ Some text → AreOpposite a b text
  opposite a b other text first second = by_keys (key a first) (key b second) where
    key : (at : Port) → name_at command at ≡ Some text → (key : List ℕ) × IsKeyOf (verb_rows command.0) at key × (text_of command.1 key ≡ Some text)
    key at = named (verb_rows command.0) command.1 at text (key_for (verb_rows command.0) command.1 sound (keys_of command.0) at)

    by_keys : (key : List ℕ) × IsKeyOf (verb_rows command.0) a key × (text_of command.1 key ≡ Some text) → (key : List ℕ) × IsKeyOf (verb_rows command.0) b key × (text_of command.1 key ≡ Some text) → AreOpposite a b text
    by_keys (one, is, told) (two, was, also) = by_test (bytes_eq one two) refl where
      by_test : (equal : Bool) → bytes_eq one two ≡ equal → AreOpposite a b text
      by_test true same = absurd (other (sym is.kind ∙ (ap (kind_of (verb_rows command.0)) ((bytes_eq-Decides one two).0 same) ∙ was.kind)))
      by_test false differ = apart (verb_rows command.0) one two a b is was differ command.1 sound.right text told also

  AreApart-sound : IsSome (name_at command port.Output) → AreApart (names_of command)
  AreApart-sound some = record {
    read = by_side (name_at command port.Side) refl;
    written = by_report (name_at command port.Report) refl;
    across = λ name one two. (bytes_eq-Decides name (codes "-")).0 (by_ways name one two);
  } where
    output : {name : List ℕ} → (names_of command).output ≡ name → name_at command port.Output ≡ Some name
    output same = by_name (name_at command port.Output) some ∙ ap Some same where
      by_name : (o : Option (List ℕ)) → IsSome o → o ≡ Some (unwrap_or o [])
      by_name None e = absurd cc
      by_name (Some name) e = refl

    by_side : (o : Option (List ℕ)) → name_at command port.Side ≡ o → IfSome o (λ side. name_at command port.Input ≡ Some side → ⊥)
    by_side None is = tt
    by_side (Some side) is = λ same. no_both refl (opposite port.Side port.Input (λ e. cc) side is same).ways

    by_report : (o : Option (List ℕ)) → name_at command port.Report ≡ o → IfSome o (λ report. (names_of command).output ≡ report → ⊥)
    by_report None is = tt
    by_report (Some report) is = λ same. no_both (opposite port.Output port.Report (λ e. cc) report (output same) is).ways refl

    by_ways : (name : List ℕ) → IsNameToRead (names_of command) name → IsNameToWrite (names_of command) name → bytes_eq name (codes "-") ≡ true
    by_ways name (inl one) (inl two) = (opposite port.Side port.Output (λ e. cc) name one (output two)).dash
    by_ways name (inl one) (inr two) = (opposite port.Side port.Report (λ e. cc) name one two).dash
    by_ways name (inr one) (inl two) = (opposite port.Input port.Output (λ e. cc) name one (output two)).dash
    by_ways name (inr one) (inr two) = (opposite port.Input port.Report (λ e. cc) name one two).dash

pub AreApart-command_of : (words : Words) (command : Command) → command_of words ≡ Ok command → AreApart (names_of command)
AreApart-command_of words command e =
    let is = IsCommand-command_of words command e in
    AreApart-sound command is.sound is.given.output

-- ---- what is kept

-- what an outlet made, if the desk tells its name as this
named-kept : (kept : Option Kept) (out : List ℕ) (name made : Option (List ℕ)) → IfSome (kept_after kept (option_map (λ _. out) name) made) (λ k. IfSome made (λ bytes. kept_at k out ≡ bytes))
named-kept None out name made = tt
named-kept (Some k) out None made = tt
named-kept (Some k) out (Some name) None = tt
named-kept (Some k) out (Some name) (Some made) = kept_here k out made out (bytes_eq-same out)

-- it stays when what another one made is kept under another name
stays-kept : (kept : Option Kept) (out report : List ℕ) → (out ≡ report → ⊥) → (first name made : Option (List ℕ)) → IfSome kept (λ k. IfSome first (λ bytes. kept_at k out ≡ bytes))
    → IfSome (kept_after kept (option_map (λ _. report) name) made) (λ k. IfSome first (λ bytes. kept_at k out ≡ bytes))
stays-kept kept out report differ first name made is = by_cases kept name made is where
  by_cases : (k : Option Kept) (name made : Option (List ℕ)) → IfSome k (λ k. IfSome first (λ bytes. kept_at k out ≡ bytes)) → IfSome (kept_after k (option_map (λ _. report) name) made) (λ k. IfSome first (λ bytes. kept_at k out ≡ bytes))
  by_cases None name made is = tt
  by_cases (Some k) None made is = tt
  by_cases (Some k) (Some name) None is = tt
  by_cases (Some k) (Some name) (Some made) is = by_first first is where
    apart : kept_at (map.insert k report made) out ≡ kept_at k out
    apart = kept_apart k report made out (bytes_eq-other out report differ)

    by_first : (first : Option (List ℕ)) → IfSome first (λ bytes. kept_at k out ≡ bytes) → IfSome first (λ bytes. kept_at (map.insert k report made) out ≡ bytes)
    by_first None is = tt
    by_first (Some bytes) is = apart ∙ is

-- a run leaves the names of the outputs
outlets-ran : (a b : Meanings) (xs : List ℕ) (us : Outputs) → Ran a b xs us → (b.output.name ≡ a.output.name) × (b.report.name ≡ a.report.name)
outlets-ran a b xs us p = (ap (λ (m : Meanings). m.output.name) p.others, ap (λ (m : Meanings). m.report.name) p.others)

outlets-ends : (reads : Bool) (course : List ℕ → Course DataFault) (a b : Meanings) (ending : Option DataFault) → EndsBy reads course a b ending → (b.output.name ≡ a.output.name) × (b.report.name ≡ a.report.name)
outlets-ends true course a b ending e = outlets-ran a b _ _ e.went.ran
outlets-ends false course a b ending e = outlets-ran a b _ _ e.ran

output-opened : (report : Option (List ℕ)) (input : Option (List ℕ)) (out bytes : List ℕ) (m : Meanings) → (with_report (with_output (with_input m input bytes) out) report).output.name ≡ option_map (λ _. out) m.output.name
output-opened None None out bytes m = refl
output-opened None (Some name) out bytes m = refl
output-opened (Some report) None out bytes m = refl
output-opened (Some report) (Some name) out bytes m = refl

report-opened : (input : Option (List ℕ)) (report out bytes : List ℕ) (m : Meanings) → (with_report (with_output (with_input m input bytes) out) (Some report)).report.name ≡ option_map (λ _. report) m.report.name
report-opened None report out bytes m = refl
report-opened (Some name) report out bytes m = refl

-- what each output made is kept under its name, once both are finished
module _ (names : Names) (start end : Meanings) (output_name : end.output.name ≡ option_map (λ _. names.output) start.output.name) where
  finished-kept : (report : Option (List ℕ)) → names.report ≡ report → IfSome report (λ report. names.output ≡ report → ⊥)
      → IfSome report (λ report. end.report.name ≡ option_map (λ _. report) start.report.name) → AreKeptAsMade names (all_finished report end)
  finished-kept None is differ named = record {
    output = subst (λ name. IfSome (kept_after end.held name (made end outlet.Main)) (λ kept. IfSome (made end outlet.Main) (λ bytes. kept_at kept names.output ≡ bytes))) (sym output_name)
        (named-kept end.held names.output start.output.name (made end outlet.Main));
    report = subst (λ report. IfSome report (λ name. IfSome (all_finished None end).held (λ kept. IfSome (made (all_finished None end) outlet.Report) (λ bytes. kept_at kept name ≡ bytes)))) (sym is) tt;
  }
  finished-kept (Some report) is differ named = record {
    output = subst (λ name. IfSome (kept_after (kept_after end.held end.output.name (made end outlet.Main)) name (made end outlet.Report)) (λ kept. IfSome (made end outlet.Main) (λ bytes. kept_at kept names.output ≡ bytes))) (sym named)
        (stays-kept (kept_after end.held end.output.name (made end outlet.Main)) names.output report differ (made end outlet.Main) start.report.name (made end outlet.Report)
        (subst (λ name. IfSome (kept_after end.held name (made end outlet.Main)) (λ kept. IfSome (made end outlet.Main) (λ bytes. kept_at kept names.output ≡ bytes))) (sym output_name)
        (named-kept end.held names.output start.output.name (made end outlet.Main))));
    report = subst (λ o. IfSome o (λ name. IfSome (all_finished (Some report) end).held (λ kept. IfSome (made (all_finished (Some report) end) outlet.Report) (λ bytes. kept_at kept name ≡ bytes)))) (sym is)
        (subst (λ name. IfSome (kept_after (kept_after end.held end.output.name (made end outlet.Main)) name (made end outlet.Report)) (λ kept. IfSome (made end outlet.Report) (λ bytes. kept_at kept report ≡ bytes))) (sym named)
        (named-kept (kept_after end.held end.output.name (made end outlet.Main)) report start.report.name (made end outlet.Report)));
  }

-- a run that is done
run_kept : (names : Names) (course : List ℕ → Course DataFault) (start new : Meanings) → IfSome names.report (λ report. names.output ≡ report → ⊥) → RunStands names course start new None → AreKeptAsMade names new
run_kept names course start new written e =
    let run = e.after in
    let outlets = outlets-ends (is_some names.input) course (all_opened names start e.input) run.end None run.ran in
    let output = outlets.0 ∙ output-opened names.report names.input names.output e.input start in
    subst (AreKeptAsMade names) (sym run.is)
    (finished-kept names start run.end output names.report refl written (report_named names.report refl run.end outlets.1))
  where
    report_named : (report : Option (List ℕ)) → names.report ≡ report → (end : Meanings) → end.report.name ≡ (all_opened names start e.input).report.name
        → IfSome report (λ report. end.report.name ≡ option_map (λ _. report) start.report.name)
    report_named None is end same = tt
    report_named (Some report) is end same =
        same ∙ (ap (λ (o : Option (List ℕ)). (with_report (with_output (with_input start names.input e.input) names.output) o).report.name) is
        ∙ report-opened names.input report names.output e.input start)

-- a command that is done
pub kept_as_made : (command : Command) (old new : Meanings) → AreApart (names_of command) → Stands command old new None → AreKeptAsMade (names_of command) new
kept_as_made command old new apart e = by_script (bad_script_row_of command) e.after.1 where
  names : Names
  names = names_of command

  by_script : (script : Option (List ℕ → Option ℕ)) → OnceAllRead script names (course_of command e.text) (with_text old inlet.Side names.side) (λ names course start. RunStands names course start new None) → AreKeptAsMade names new
  by_script None e = run_kept names _ _ new apart.written e
  by_script (Some bad_row) e =
      let kept = run_kept (left_to_open (Some bad_row) names) _ _ new apart.written e.after.1 in
      record { output = kept.output; report = kept.report }

-- ---- what words that give a command grant, and how its answer is told

-- the names of a command are granted if all that words give to the keys of names are
module _ (words : Words) (command : Command) (are_given : AreGiven words command) (m : Meanings) (all : GrantsNames words m) where
  granted : (port : Port) (keys : List (List ℕ)) (grants : List ℕ → Bool) → ((key : List ℕ) → Contains (keys_at port) key → Contains keys key) → ((name : List ℕ) → AssignsToOne words keys name → IsTrue (grants name))
      → IfSome (name_at command port) (λ name. IsTrue (grants name))
  granted port keys grants among all = by_name (name_at command port) (are_given.names port) where
    by_name : (o : Option (List ℕ)) → IfSome o (AssignsToOne words (keys_at port)) → IfSome o (λ name. IsTrue (grants name))
    by_name None given = tt
    by_name (Some name) (key, is, given) = all name (key, among key is, given)

  is_input : (key : List ℕ) → Contains (keys_at Input) key → Contains read_keys key
  is_input key (zero, within, e) = (0, omega arith, e)
  is_input key (suc zero, within, e) = (2, omega arith, e)
  is_input key (suc (suc n), within, e) = absurd (omega (arith, within))

  is_output : (key : List ℕ) → Contains (keys_at Output) key → Contains written_keys key
  is_output key (zero, within, e) = (0, omega arith, e)
  is_output key (suc n, within, e) = absurd (omega (arith, within))

  is_report : (key : List ℕ) → Contains (keys_at Report) key → Contains written_keys key
  is_report key (zero, within, e) = (1, omega arith, e)
  is_report key (suc n, within, e) = absurd (omega (arith, within))

  granted_name : (o : Option (List ℕ)) → IsSome o → IfSome o (λ name. IsTrue (m.grants_out name)) → IsTrue (m.grants_out (unwrap_or o []))
  granted_name None some is = absurd cc
  granted_name (Some name) some is = is

  pub AreGranted-command : AreGranted (names_of command) m
  AreGranted-command = (
    granted Side read_keys m.grants_in (later (codes "in") (keys_at Side)) all.reads,
    granted Input read_keys m.grants_in is_input all.reads,
    granted_name (name_at command Output) are_given.output (granted Output written_keys m.grants_out is_output all.writes),
    granted Report written_keys m.grants_out is_report all.writes,
  )

-- words give a command or have a fault
pub not_both : {r : Result Command ℕ} {command : Command} {word : ℕ} → r ≡ Ok command → r ≡ Err word → ⊥
not_both one other = cc

pub same_command : {r : Result Command ℕ} {one other : Command} → r ≡ Ok one → r ≡ Ok other → one ≡ other
same_command one other = cc

-- the answer of the command that the words give
pub ends_for : {r : Result Command ℕ} (one other : Command) → r ≡ Ok one → r ≡ Ok other → (m : Meanings) (old new : Counts) (answer : Result (Unit {0}) Refusal) (status : Status) → status ≡ status_by answer → IsAnswered one m old new answer
    → (text input : List ℕ) → AreTold (names_of other) m text input → status ≢ Refused refusal.NoMemory → NoneRose old new → status ≡ answer_to other text input
ends_for one other is also m old new answer status told answered text input inputs memory none =
    told ∙ subst (λ command. IsAnswered command m old new answer) (same_command is also) answered text input inputs.0 inputs.1 (λ e. memory (told ∙ e)) none.0 none.1
