-- The names that the words of a command give to what is read, and what a desk for one command keeps through its calls.
use Rattle.std.proofs.Common.{arith, ◌≡◌, ℕ, ◌<◌, zero, suc, Bool, true, false, not, ◌&&◌, ◌||◌, IsTrue, List, [], ◌∷◌, ◌++◌, length, codes, Option, None, Some, is_some, nat_lt, Result, Ok, Err, refl, sym, ap, subst, ◌∙◌, inl, inr}
use Rattle.std.specs.Prelude.{◌⊎◌, IsSome, IfSome, OnOk, OnErr}
use Rattle.std.specs.List.{Contains, list_any}
use Rattle.std.specs.FinMap as map
use Rattle.std.specs.Str.{bytes_eq}
use Rattle.std.proofs.lemmas.Bool.Decides.{nat_tests}
use Rattle.std.proofs.lemmas.List.Folds.{list_any_at}
use Rattle.std.proofs.lemmas.Slice.Eq.{bytes_eq-Decides}
use Rattle.desk_ports.specs.declared.calls.Call.TheVariants as call
use Rattle.desk_ports.specs.declared.desk.Outlet.{Outlet}
use Rattle.desk_ports.specs.declared.desk.Outlet.TheVariants as outlet
use Rattle.desk_ports.specs.Meanings.{Kept, HasReadCause, Keeps, next_count}
use Rattle.desk_ports.specs.MemState.{MemState, IsCalled, IsNamed, NothingFails, called, mem_meanings, read_fault}
use Rattle.desk_ports.proofs.Desks.{IsSome-insert}
use Rattle.pocket_cmd.specs.Words.{Words, is_split, key_in, read_keys, text_in}
use Rattle.pocket_cmd.specs.Openings.{GrantsNames}
use Rattle.pocket_c.specs.CommandDesk.{CommandState, IsCommandDesk, command_counts, command_meanings, counted_reads, give_name, gives_name, has_read_key, lack_name}

-- ---- names

some-is : {X : Type 0} (o : Option X) → IsSome o → is_some o ≡ true
some-is None some = absurd cc
some-is (Some x) some = refl

is-some : {X : Type 0} (o : Option X) → is_some o ≡ true → IsSome o
is-some None some = absurd cc
is-some (Some x) some = search

-- something is kept under each name that words give to what is read, if they lack none
pub kept-given : (kept : Kept) (words : Words) (name : List ℕ) → give_name words name ≡ true → lack_name kept words ≡ false → is_some (map.get kept name) ≡ true
kept-given kept [] name gives none = absurd cc
kept-given kept (word ∷ words) name gives none =
    either (has_read_key word) (bytes_eq (text_in word) name) (is_some (map.get kept (text_in word))) (is_some (map.get kept name)) (give_name words name) (lack_name kept words)
    (λ same. ap (λ text. is_some (map.get kept text)) ((bytes_eq-Decides (text_in word) name).0 same)) (kept-given kept words name) gives none
  where
    either : (read same held sought others lacking : Bool) → (same ≡ true → held ≡ sought) → (others ≡ true → lacking ≡ false → sought ≡ true)
        → ((read && same) || others) ≡ true → ((read && not held) || lacking) ≡ false → sought ≡ true
    either false same held sought others lacking is later gives none = later gives none
    either true true true sought others lacking is later gives none = sym (is refl)
    either true true false sought others lacking is later gives none = absurd cc
    either true false true sought others lacking is later gives none = later gives none
    either true false false sought others lacking is later gives none = absurd cc

-- they lack none if one more thing is kept
pub lack_name-insert : (kept : Kept) (name bytes : List ℕ) (words : Words) → lack_name kept words ≡ false → lack_name (map.insert kept name bytes) words ≡ false
lack_name-insert kept name bytes [] none = none
lack_name-insert kept name bytes (word ∷ words) none =
    either (has_read_key word) (is_some (map.get kept (text_in word))) (is_some (map.get (map.insert kept name bytes) (text_in word))) (lack_name kept words) (lack_name (map.insert kept name bytes) words)
    (λ some. some-is (map.get (map.insert kept name bytes) (text_in word)) (IsSome-insert kept name bytes (text_in word) (is-some (map.get kept (text_in word)) some)))
    (lack_name-insert kept name bytes words) none
  where
    either : (read held now lacking still : Bool) → (held ≡ true → now ≡ true) → (lacking ≡ false → still ≡ false)
        → ((read && not held) || lacking) ≡ false → ((read && not now) || still) ≡ false
    either false held now lacking still more later none = later none
    either true true true lacking still more later none = later none
    either true true false lacking still more later none = absurd (differ (more refl)) where
      differ : false ≡ true → ⊥
      differ e = cc
    either true false now lacking still more later none = absurd cc

-- a word gives its name if it is split, and has a key for a name to read
gives : (word name : List ℕ) → is_split word ≡ true → list_any (bytes_eq (key_in word)) read_keys ≡ true → text_in word ≡ name → gives_name name word ≡ true
gives word name split known is = all (is_split word) (list_any (bytes_eq (key_in word)) read_keys) (bytes_eq (text_in word) name) split known ((bytes_eq-Decides (text_in word) name).1 is) where
  all : (a b c : Bool) → a ≡ true → b ≡ true → c ≡ true → ((a && b) && c) ≡ true
  all true true c one other third = third
  all true false c one other third = absurd cc
  all false b c one other third = absurd cc

below : (m n : ℕ) → m < n → nat_lt m n ≡ true
below m n h = grind (arith, nat_tests)

gives-name : (key name : List ℕ) → Contains read_keys key → gives_name name (key ++ 61 ∷ name) ≡ true
gives-name key name (zero, within, e) = subst (λ key. gives_name name (key ++ 61 ∷ name) ≡ true) e (gives (codes "in" ++ 61 ∷ name) name (below 2 (length (codes "in" ++ 61 ∷ name)) (omega arith)) refl refl)
gives-name key name (suc zero, within, e) = subst (λ key. gives_name name (key ++ 61 ∷ name) ≡ true) e (gives (codes "plan" ++ 61 ∷ name) name (below 4 (length (codes "plan" ++ 61 ∷ name)) (omega arith)) refl refl)
gives-name key name (suc (suc zero), within, e) = subst (λ key. gives_name name (key ++ 61 ∷ name) ≡ true) e (gives (codes "script" ++ 61 ∷ name) name (below 6 (length (codes "script" ++ 61 ∷ name)) (omega arith)) refl refl)
gives-name key name (suc (suc (suc zero)), within, e) = subst (λ key. gives_name name (key ++ 61 ∷ name) ≡ true) e (gives (codes "fields" ++ 61 ∷ name) name (below 6 (length (codes "fields" ++ 61 ∷ name)) (omega arith)) refl refl)
gives-name key name (suc (suc (suc (suc zero))), within, e) = subst (λ key. gives_name name (key ++ 61 ∷ name) ≡ true) e (gives (codes "streams" ++ 61 ∷ name) name (below 7 (length (codes "streams" ++ 61 ∷ name)) (omega arith)) refl refl)
gives-name key name (suc (suc (suc (suc (suc k)))), within, e) = absurd (omega (arith, within))

-- so each name that words give to what is read is one that they give
pub give_name-assigned : (words : Words) (name key : List ℕ) → Contains read_keys key → Contains words (key ++ 61 ∷ name) → give_name words name ≡ true
give_name-assigned words name key known (k, within, e) =
    list_any_at (gives_name name) words k (key ++ 61 ∷ name) within (subst (λ word. gives_name name word ≡ true) (sym e) (gives-name key name known))

-- ---- calls

-- finishing an output
pub IsCommandDesk-finish : {E : Type 0} (old new : MemState) (words : Words) (lacking : Bool) (o : Outlet) (r : Result (Unit {0}) E) → OnOk r (Keeps (mem_meanings old) (mem_meanings new) o) → OnErr r (mem_meanings new ≡ mem_meanings old)
    → IsCalled old new call.Finish → IsCommandDesk old words lacking → IsCommandDesk new words lacking
IsCommandDesk-finish {E = E} old new words lacking o r keeps same called was =
    record { nothing = subst NothingFails (sym called.numbered) (record { open_in = was.nothing.open_in; open_out = was.nothing.open_out; read = was.nothing.read; write = was.nothing.write; finish = was.nothing.finish }); kept = kept r o keeps same }
  where
    none : (a b : Bool) → (a && not b) ≡ false → (b ≡ false → a ≡ false)
    none true true e = λ h. absurd cc
    none true false e = absurd cc
    none false b e = λ h. refl

    still : (a b : Bool) → (b ≡ false → a ≡ false) → (a && not b) ≡ false
    still true true h = refl
    still true false h = h refl
    still false b h = refl

    HasNone : Option Kept → Type 0
    HasNone held = IfSome held (λ kept. (lack_name kept words && not lacking) ≡ false)

    insert : (name bytes : List ℕ) → (lack_name (map.insert old.held name bytes) words && not lacking) ≡ false
    insert name bytes = still (lack_name (map.insert old.held name bytes) words) lacking (λ h. lack_name-insert old.held name bytes words (none (lack_name old.held words) lacking was.kept h))

    kept : (r : Result (Unit {0}) E) (o : Outlet) → OnOk r (Keeps (mem_meanings old) (mem_meanings new) o) → OnErr r (mem_meanings new ≡ mem_meanings old) → (lack_name new.held words && not lacking) ≡ false
    kept (Ok done) outlet.Main keeps same = subst HasNone (sym (ap (λ m. m.held) keeps)) (insert old.output.name old.output.made)
    kept (Ok done) outlet.Report keeps same = subst HasNone (sym (ap (λ m. m.held) keeps)) (insert old.report.name old.report.made)
    kept (Err failed) o keeps same = subst HasNone (sym (ap (λ m. m.held) same)) was.kept

-- ---- counts

-- an opening failed only if a name is lacking
pub lacking-unopened : (desk : MemState) (words : Words) (lacking : Bool) (name : List ℕ) → IsCommandDesk desk words lacking → IsTrue (give_name words name) → IsNamed desk call.OpenIn ⊎ (map.get desk.held name ≡ None) → lacking ≡ true
lacking-unopened desk words true name was given failed = refl
lacking-unopened desk words false name was given (inl named) = absurd (empty (subst (λ failing. Contains failing (next_count desk.plan.open_in.calls)) was.nothing.open_in named)) where
  empty : {x : ℕ} → Contains [] x → ⊥
  empty (k, within, e) = absurd (omega (arith, within))
lacking-unopened desk words false name was given (inr missing) = absurd (differ (sym (ap is_some missing) ∙ kept-given desk.held words name (is given) (none (lack_name desk.held words) was.kept))) where
  differ : false ≡ true → ⊥
  differ e = cc

  is : {b : Bool} → IsTrue b → b ≡ true
  is {b = true} h = refl
  is {b = false} h = absurd cc

  none : (a : Bool) → (a && true) ≡ false → a ≡ false
  none true e = e
  none false e = refl

-- so the openings that failed are counted
pub read-cause : {T E : Type 0} (old new : MemState) (words : Words) (lacking : Bool) (r : Result T E) → OnOk r (new.faults ≡ old.faults) → OnErr r (new.faults ≡ read_fault old.faults) → OnErr r (lacking ≡ true)
    → HasReadCause (command_counts (record { desk = old; words = words; lacking = lacking })) (command_counts (record { desk = new; words = words; lacking = lacking })) r
read-cause old new words lacking (Ok done) same failed is = ap (λ faults. record { reads = counted_reads lacking faults.reads; writes = faults.short }) same
read-cause old new words true (Err e) same failed is =
    ap (λ faults. record { reads = counted_reads true faults.reads; writes = faults.short }) failed ∙ ap (λ n. record { reads = n; writes = old.faults.short }) (counted old.faults.reads)
  where
    counted : (n : ℕ) → counted_reads true (next_count n) ≡ next_count (counted_reads true n)
    counted n = omega arith
read-cause old new words false (Err e) same failed is = absurd cc

-- the desk grants each name that the words give
pub GrantsNames-given : (command : CommandState) → GrantsNames command.words (command_meanings command)
GrantsNames-given command = record {
  reads = λ name (key, known, assigned). give_name-assigned command.words name key known assigned;
  writes = λ name assigned. refl;
}
