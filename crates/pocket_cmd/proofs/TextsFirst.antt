-- What a command answers to a text in which something is wrong or whose reading failed.
use Rattle.std.specs.Io.KnownBytes.{prepend_known}
use Rattle.std.specs.Option.{option_map}
use Rattle.std.specs.Prelude.{OnErr}
use Rattle.std.proofs.Common.{◌≡◌, ◌≢◌, ℕ, ◌<◌, ◌≤◌, List, length, Option, Some, None, IfSome, Result, Ok, Err, inl, inr, refl, sym, ap, ◌∙◌, subst, arith, drop, ◌++◌, true}
use Rattle.std.proofs.lemmas.List.{drop_at, length-append}
use Rattle.std.proofs.lemmas.Option.{same_Some}
use Rattle.desk_ports.specs.Meanings.{Meanings, Counts, Rose, left, Incoming, Kept, Moves, Opens, kept_at, with_incoming, with_left}
use Rattle.desk_ports.specs.declared.desk.Inlet.{Inlet}
use Rattle.desk_ports.specs.declared.desk.Inlet.TheVariants as inlet
use Rattle.desk_ports.proofs.Desks.{Rose-reads}
use Rattle.side_tables.specs.Grammar.{bad_copy_row, bad_schedule_row}
use Rattle.pocket_cmd.specs.Command.{Command, names_of}
use Rattle.pocket_cmd.specs.Courses.{bad_row_of}
use Rattle.pocket_cmd.specs.Delivery.{IsSideRight}
use Rattle.pocket_cmd.specs.Openings.{AreTold, IsText, IsTextCutOff, given_at, side_given, with_text, IsTextUnread, told_bytes}
use Rattle.pocket_cmd.specs.Outcome.{AfterCommand, AfterRefusal, AfterTextClass, HasBadText, HasTextReadFailed, IsScriptFirst, IsTextBad, IsTextFirst, IsSideJudged}
use Rattle.pocket_cmd.specs.Status.{BadText, refusal_for, status_by, HasStatusCause}
use Rattle.pocket_cmd.specs.Status as class
use Rattle.pocket_cmd.specs.Words.{Words}
use Rattle.pocket_cmd.specs.declared.status.Refusal.{Refusal}
use Rattle.pocket_cmd.specs.declared.status.Refusal.TheVariants as refusal
use Rattle.pocket_cmd.specs.declared.status.Status.TheVariants.{Refused}
use Rattle.pocket_cmd.specs.declared.verbs.Verb.TheVariants.{Forecast}
use Rattle.pocket_cmd.proofs.Performed.{given-with_side, text_is, AfterRefusal-answer}

-- ---- a text that is told

not_both : (text : List ℕ) → length text ≤ 1048576 → 1048576 < length text → ⊥
not_both text within long = omega arith

no_row : {o : Option ℕ} {row : ℕ} → o ≡ None → o ≡ Some row → ⊥
no_row none some = cc

same_row : {o : Option ℕ} {one other : ℕ} → o ≡ Some one → o ≡ Some other → one ≡ other
same_row one other = cc

module _ (i : Inlet) (name : Option (List ℕ)) (bad_row : List ℕ → Option ℕ) (old : Meanings) (text : List ℕ) (told : given_at old i name ≡ Some text) where
  same_text : (read : List ℕ) → IsText old i name read → read ≡ text
  same_text read is = text_is (given_at old i name) read text is told

  -- no text in which something is wrong is right
  not_right : (bad : BadText) → IsTextBad bad_row text bad → (read : List ℕ) → IsText old i name read → length read ≤ 1048576 → bad_row read ≡ None → ⊥
  not_right class.Long bad read is within none = not_both read within (subst (λ text. 1048576 < length text) (sym (same_text read is)) bad)
  not_right (class.Row row) bad read is within none = no_row none (subst (λ text. bad_row text ≡ Some row) (sym (same_text read is)) bad.1)

  -- and no right text is refused
  not_bad : (bad : BadText) (new : Meanings) → length text ≤ 1048576 → bad_row text ≡ None → HasBadText i name bad_row old new bad → ⊥
  not_bad class.Long new within none e = not_both text within (subst (λ o. IfSome o (λ bytes. 1048576 < length bytes)) told e.long)
  not_bad (class.Row row) new within none e = no_row none (subst (λ text. bad_row text ≡ Some row) (same_text e.text e.told) e.after.0)

  -- it is refused for what is wrong with it
  same_bad : (new : Meanings) (other bad : BadText) → IsTextBad bad_row text bad → HasBadText i name bad_row old new other → other ≡ bad
  same_bad new class.Long class.Long bad e = refl
  same_bad new class.Long (class.Row row) bad e = absurd (not_both text bad.0 (subst (λ o. IfSome o (λ bytes. 1048576 < length bytes)) told e.long))
  same_bad new (class.Row row) class.Long bad e = absurd (not_both e.text e.within (subst (λ text. 1048576 < length text) (sym (same_text e.text e.told)) bad))
  same_bad new (class.Row other) (class.Row row) bad e = ap (λ row. class.Row row) (same_row (subst (λ text. bad_row text ≡ Some other) (same_text e.text e.told) e.after.0) bad.1)

  -- or reading it failed
  lost : (new : Meanings) → HasTextReadFailed i name old new → IsTextCutOff 1048577 old i text new
  lost new e = subst (λ o. IfSome o (λ text. IsTextCutOff 1048577 old i text new)) told e.1

-- ---- a side text

module _ (command : Command) (old new : Meanings) (text : List ℕ) (told : side_given old (names_of command).side ≡ Some text) (bad : BadText) (is : IsTextBad (bad_row_of command) text bad) where
  not_read : (read : List ℕ) → IsText old inlet.Side (names_of command).side read → length read ≤ 1048576 → bad_row_of command read ≡ None → ⊥
  not_read = not_right inlet.Side (names_of command).side (bad_row_of command) old text told bad is

  side_refused : (other : BadText) → HasBadText inlet.Side (names_of command).side (bad_row_of command) old new other → IsTextFirst inlet.Side old text bad new (Refused (refusal_for inlet.Side other))
  side_refused other e = inl (ap (λ bad. Refused (refusal_for inlet.Side bad)) (same_bad inlet.Side (names_of command).side (bad_row_of command) old text told new other bad is e))

  not_read_on : (read : List ℕ) → IsText old inlet.Side (names_of command).side read → length read ≤ 1048576 → AfterTextClass command read (with_text old inlet.Side (names_of command).side) new class.Reading → ⊥
  not_read_on read same within (inl (inl e)) = e.0
  not_read_on read same within (inl (inr e)) = not_read read same within e.0
  not_read_on read same within (inr e) = not_read read same within e.0

  side_by : (why : Refusal) → AfterRefusal command old new why → Refused why ≢ Refused refusal.NoMemory → IsTextFirst inlet.Side old text bad new (Refused why)
  side_by (refusal.BadWords word) e memory = absurd e
  side_by refusal.SideTooLong e memory = side_refused class.Long e
  side_by (refusal.BadSide row) e memory = side_refused (class.Row row) e
  side_by refusal.ScriptTooLong e memory = absurd (not_read e.text e.told e.within e.after.0)
  side_by (refusal.BadScript row) e memory = absurd (not_read e.text e.told e.within e.after.0)
  side_by refusal.ReadFault (inl e) memory = inr (refl, lost inlet.Side (names_of command).side (bad_row_of command) old text told new e.1)
  side_by refusal.ReadFault (inr e) memory = absurd (not_read_on e.text e.told e.within e.after)
  side_by refusal.WriteFault e memory = absurd (not_read e.text e.told e.within e.after.0)
  side_by (refusal.CutRecord t) e memory = absurd (not_read e.text e.told e.within e.after.0)
  side_by (refusal.SpareBit t) e memory = absurd (not_read e.text e.told e.within e.after.0)
  side_by (refusal.BadStore byte kind) e memory = absurd (not_read e.text e.told e.within e.after.0)
  side_by refusal.TooMany e memory = absurd (not_read e.text e.told e.within e.after.0)
  side_by refusal.NoMemory e memory = absurd (memory refl)

  pub side-first : (r : Result (Unit {0}) Refusal) → AfterCommand command old new r → status_by r ≢ Refused refusal.NoMemory → IsTextFirst inlet.Side old text bad new (status_by r)
  side-first (Ok done) e memory = absurd (not_read e.text e.told e.within e.after.0)
  side-first (Err why) e memory = side_by why e memory

-- ---- the script of a forecast

module _ (words : Words) (old new : Meanings) (plan script : List ℕ) (told : AreTold (names_of (Forecast, words)) old plan script) (right : IsSideRight (Forecast, words) plan) (bad : BadText) (is : IsTextBad bad_copy_row script bad) where
  abbrev start : Meanings
  start = with_text old inlet.Side (names_of (Forecast, words)).side

  script_told : given_at start inlet.Main (names_of (Forecast, words)).input ≡ Some script
  script_told = given-with_side old (names_of (Forecast, words)).side (names_of (Forecast, words)).input ∙ told.1

  not_script : (read : List ℕ) → IsText start inlet.Main (names_of (Forecast, words)).input read → length read ≤ 1048576 → bad_copy_row read ≡ None → ⊥
  not_script = not_right inlet.Main (names_of (Forecast, words)).input bad_copy_row start script script_told bad is

  not_side : (other : BadText) → HasBadText inlet.Side (names_of (Forecast, words)).side bad_schedule_row old new other → ⊥
  not_side other e = not_bad inlet.Side (names_of (Forecast, words)).side bad_schedule_row old plan told.0 other new right.0 right.1 e

  script_refused : (other : BadText) → HasBadText inlet.Main (names_of (Forecast, words)).input bad_copy_row start new other → IsScriptFirst (names_of (Forecast, words)).side old plan script bad new (Refused (refusal_for inlet.Main other))
  script_refused other e = inr (inl (ap (λ bad. Refused (refusal_for inlet.Main bad)) (same_bad inlet.Main (names_of (Forecast, words)).input bad_copy_row start script script_told new other bad is e)))

  script_lost : (read : List ℕ) → AfterTextClass (Forecast, words) read start new class.Reading → IsScriptFirst (names_of (Forecast, words)).side old plan script bad new (Refused refusal.ReadFault)
  script_lost read (inl (inl e)) = absurd e.0
  script_lost read (inl (inr e)) = inr (inr (refl, lost inlet.Main (names_of (Forecast, words)).input bad_copy_row start script script_told new e.1))
  script_lost read (inr e) = absurd (not_script e.1.text e.1.told e.1.within e.1.after.0)

  script_by : (why : Refusal) → AfterRefusal (Forecast, words) old new why → Refused why ≢ Refused refusal.NoMemory → IsScriptFirst (names_of (Forecast, words)).side old plan script bad new (Refused why)
  script_by (refusal.BadWords word) e memory = absurd e
  script_by refusal.SideTooLong e memory = absurd (not_side class.Long e)
  script_by (refusal.BadSide row) e memory = absurd (not_side (class.Row row) e)
  script_by refusal.ScriptTooLong e memory = script_refused class.Long e.after.1
  script_by (refusal.BadScript row) e memory = script_refused (class.Row row) e.after.1
  script_by refusal.ReadFault (inl e) memory = inl (refl, lost inlet.Side (names_of (Forecast, words)).side bad_schedule_row old plan told.0 new e.1)
  script_by refusal.ReadFault (inr e) memory = script_lost e.text e.after
  script_by refusal.WriteFault e memory = absurd (not_script e.after.1.text e.after.1.told e.after.1.within e.after.1.after.0)
  script_by (refusal.CutRecord t) e memory = absurd (not_script e.after.1.text e.after.1.told e.after.1.within e.after.1.after.0)
  script_by (refusal.SpareBit t) e memory = absurd (not_script e.after.1.text e.after.1.told e.after.1.within e.after.1.after.0)
  script_by (refusal.BadStore byte kind) e memory = absurd (not_script e.after.1.text e.after.1.told e.after.1.within e.after.1.after.0)
  script_by refusal.TooMany e memory = absurd (not_script e.after.1.text e.after.1.told e.after.1.within e.after.1.after.0)
  script_by refusal.NoMemory e memory = absurd (memory refl)

  pub script-first : (r : Result (Unit {0}) Refusal) → AfterCommand (Forecast, words) old new r → status_by r ≢ Refused refusal.NoMemory → IsScriptFirst (names_of (Forecast, words)).side old plan script bad new (status_by r)
  script-first (Ok done) e memory = absurd (not_script e.after.1.text e.after.1.told e.after.1.within e.after.1.after.0)
  script-first (Err why) e memory = script_by why e memory

-- ---- which side text is refused

-- a text that is too long was read to its limit and one byte
pub left-too_long : (command : Command) (text : List ℕ) (old new : Meanings) (r : Result (Unit {0}) Refusal) → AfterCommand command old new r
    → side_given old (names_of command).side ≡ Some text → status_by r ≡ Refused refusal.SideTooLong → left new inlet.Side ≡ Some (drop 1048577 text)
left-too_long command text old new r e told is =
    subst (λ o. IfSome o (λ bytes. left new inlet.Side ≡ Some (drop 1048577 bytes))) told (AfterRefusal-answer command old new r refusal.SideTooLong e is).read

-- each answer that refuses a side text does so for its text, and if no reading failed, what is wrong with it is answered
pub IsSideJudged-answer : (command : Command) (text : List ℕ) (old new : Meanings) (counts after : Counts) (r : Result (Unit {0}) Refusal) → AfterCommand command old new r → HasStatusCause counts after (status_by r)
    → side_given old (names_of command).side ≡ Some text → status_by r ≢ Refused refusal.NoMemory → ¬ Rose counts.reads after.reads → IsSideJudged command text (status_by r)
IsSideJudged-answer command text old new counts after r e cause told memory reads = λ bad. (λ is. wrong bad is, λ is. answered bad is) where
  wrong : (bad : class.BadText) → status_by r ≡ Refused (refusal_for inlet.Side bad) → IsTextBad (bad_row_of command) text bad
  wrong class.Long is = subst (λ o. IfSome o (λ bytes. 1048576 < length bytes)) told (AfterRefusal-answer command old new r refusal.SideTooLong e is).long
  wrong (class.Row row) is =
      let refused = AfterRefusal-answer command old new r (refusal.BadSide row) e is in
      subst (λ text. (length text ≤ 1048576) × (bad_row_of command text ≡ Some row)) (text_is (side_given old (names_of command).side) refused.text text refused.told told) (refused.within, refused.after.0)

  by_reading : (bad : class.BadText) → IsTextFirst inlet.Side old text bad new (status_by r) → status_by r ≡ Refused (refusal_for inlet.Side bad)
  by_reading bad (inl is) = is
  by_reading bad (inr lost) = absurd (reads (Rose-reads counts after (subst (HasStatusCause counts after) lost.0 cause)))

  answered : (bad : class.BadText) → IsTextBad (bad_row_of command) text bad → status_by r ≡ Refused (refusal_for inlet.Side bad)
  answered bad is = by_reading bad (side-first command old new text told bad is r e memory)

-- ---- what a failed reading of a text leaves

pub OnErr-by : {T E P Q : Type 0} (r : Result T E) → (P → Q) → OnErr r P → OnErr r Q
OnErr-by (Ok x) f e = e
OnErr-by (Err x) f e = f e

-- ---- an inlet of which this is told

pub left-told : (m : Meanings) (i : Inlet) (told : Incoming) → left (with_incoming m i told) i ≡ told.left
left-told m inlet.Side told = refl
left-told m inlet.Main told = refl

pub with_left-told : (m : Meanings) (i : Inlet) (told : Incoming) (bytes : Option (List ℕ)) → with_left (with_incoming m i told) i bytes ≡ with_incoming m i (record told { left = bytes })
with_left-told m inlet.Side told bytes = refl
with_left-told m inlet.Main told bytes = refl

-- ---- a failed reading

-- these bytes of the text were read
cut_off : (most : ℕ) (i : Inlet) (old new : Meanings) (bytes rest : List ℕ) → length bytes < most → new ≡ with_incoming old i (record { left = Some rest; ready = true }) → IsTextCutOff most old i (bytes ++ rest) new
cut_off most i old new bytes rest few is = inr (
  length bytes,
  few,
  omega (arith, length-append bytes rest),
  is ∙ ap (λ (rest : List ℕ). with_incoming old i (record { left = Some rest; ready = true })) (sym (drop_at bytes rest (length bytes) refl)),
)

by_told : (most : ℕ) (i : Inlet) (old new : Meanings) (held : Option Kept) (before after : Option (List ℕ)) (name opened bytes : List ℕ) → IfSome held (λ kept. opened ≡ kept_at kept name) → option_map (λ _. opened) before ≡ prepend_known bytes after
    → length bytes < most → new ≡ with_incoming old i (record { left = after; ready = true }) → IfSome (told_bytes held before name) (λ text. IsTextCutOff most old i text new)
by_told most i old new None before after name opened bytes kept moved few is = tt
by_told most i old new (Some k) None after name opened bytes kept moved few is = tt
by_told most i old new (Some k) (Some b) None name opened bytes kept moved few is = absurd cc
by_told most i old new (Some k) (Some b) (Some rest) name opened bytes kept moved few is =
    subst (λ text. IsTextCutOff most old i text new) (sym (same_Some _ _ moved) ∙ kept) (cut_off most i old new bytes rest few is)

-- the inlet was opened, and a read failed after these bytes
pub IsTextUnread-lost : (most : ℕ) (i : Inlet) (old mid new : Meanings) (name bytes : List ℕ) → Opens old mid i name → length bytes < most → Moves mid new i bytes → IsTextUnread most old i (Some name) new
IsTextUnread-lost most i old mid new name bytes opens few moves =
    let told : Incoming = record { left = option_map (λ _. opens.bytes) (left old i); ready = true } in
    by_told most i old new old.held (left old i) (left new i) name opens.bytes bytes opens.kept (sym (ap (λ (m : Meanings). left m i) opens.others ∙ left-told old i told) ∙ moves.moved) few
    (moves.others ∙ (ap (λ (m : Meanings). with_left m i (left new i)) opens.others ∙ with_left-told old i told (left new i)))
