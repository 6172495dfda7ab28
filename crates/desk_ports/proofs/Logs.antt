-- What a log keeps, one entry at a time, and its names.
use Rattle.std.specs.Cmp.{eq_by_cmp_equiv}
use Rattle.std.specs.Cmp.Lexicographic.{nat_list_cmp_total, slice_cmp}
use Rattle.std.specs.FinMap as map
use Rattle.std.specs.FinMap.Entries.{by_order}
use Rattle.std.specs.Ordering.{eq_by_cmp}
use Rattle.std.specs.Str.{bytes_eq}
use Rattle.std.proofs.Common.{◌≡◌, ℕ, ◌+◌, ◌<◌, Bool, true, false, cond, List, [], ◌∷◌, ◌++◌, length, take, get_or, Option, Some, None, MatchOption, sym, ap, ◌∙◌, arith, not, ◌&&◌, true≢false, map as each, fold, filter, find, Ordering, Less, Equal, Greater, is_gt, is_le, is_lt, nat_cmp, refl}
use Rattle.std.proofs.lemmas.Cmp.{upto}
use Rattle.std.proofs.lemmas.List.{take_more, get_or_read, nil_from_length}
use Rattle.std.proofs.lemmas.List.Sums.{fold_push}
use Rattle.std.proofs.lemmas.Map.Text.{is_eq-slice_cmp}
use Rattle.desk_ports.specs.Log.{kept_of, bytes_at}
use Rattle.desk_ports.specs.Meanings.{Kept}
use Rattle.desk_ports.specs.Names.{is_name_below, is_from}

-- ---- what a log keeps, one entry at a time

kept_of_push : (log : List (List ℕ × List ℕ)) (entry : List ℕ × List ℕ) → kept_of (log ++ entry ∷ []) ≡ map.insert (kept_of log) entry.0 entry.1
kept_of_push log entry = fold_push (λ (kept : Kept) (e : List ℕ × List ℕ). map.insert kept e.0 e.1) map.empty log entry

get-kept_of_push : (log : List (List ℕ × List ℕ)) (entry : List ℕ × List ℕ) (name : List ℕ) → map.get (kept_of (log ++ entry ∷ [])) name ≡ cond (bytes_eq name entry.0) (Some entry.1) (map.get (kept_of log) name)
get-kept_of_push log entry name =
    ap (λ kept. map.get kept name) (kept_of_push log entry)
    ∙ map.get-insert nat_list_cmp_total (kept_of log) entry.0 entry.1 name
    ∙ ap (λ b. cond b (Some entry.1) (map.get (kept_of log) name)) (is_eq-slice_cmp name entry.0)

-- one more entry of the log, whose name is the one that is searched for or another
get-kept_of_more : (log : List (List ℕ × List ℕ)) (at : ℕ) (name : List ℕ) (same : Bool) → at < length log → bytes_eq name (get_or log at ([], [])).0 ≡ same
    → map.get (kept_of (take (at + 1) log)) name ≡ cond same (Some (bytes_at log at)) (map.get (kept_of (take at log)) name)
get-kept_of_more log at name same within e =
    ap (λ l. map.get (kept_of l) name) (take_more log at ([], []) within)
    ∙ get-kept_of_push (take at log) (get_or log at ([], [])) name
    ∙ ap (λ b. cond b (Some (bytes_at log at)) (map.get (kept_of (take at log)) name)) e

-- the newest of the entries before a place that have this name
abbrev pub IsNewest : List (List ℕ × List ℕ) → ℕ → List ℕ → Option ℕ → Type 0
IsNewest log at name found = MatchOption found (map.get (kept_of (take at log)) name ≡ None) (λ place. (place < at) × (map.get (kept_of (take at log)) name ≡ Some (bytes_at log place)))

-- an entry with another name does not change the newest
IsNewest_stays : (log : List (List ℕ × List ℕ)) (at : ℕ) (name : List ℕ) (found : Option ℕ)
    → map.get (kept_of (take (at + 1) log)) name ≡ map.get (kept_of (take at log)) name → IsNewest log at name found → IsNewest log (at + 1) name found
IsNewest_stays log at name None e is = e ∙ is
IsNewest_stays log at name (Some place) e is = (omega (arith, is.0), e ∙ is.1)

pub IsNewest_more : (log : List (List ℕ × List ℕ)) (at : ℕ) (name : List ℕ) (entry : List ℕ × List ℕ) (same : Bool) (found : Option ℕ)
    → at < length log → entry ≡ get_or log at entry → same ≡ bytes_eq name entry.0 → IsNewest log at name found → IsNewest log (at + 1) name (cond same (Some at) found)
IsNewest_more log at name entry same found within is e newest =
    let read = get_or_read log at entry within is ([], []) in
    let more = get-kept_of_more log at name same within (ap (λ x. bytes_eq name x.0) (sym read) ∙ sym e) in
    by same more
  where
    by : (same : Bool) → map.get (kept_of (take (at + 1) log)) name ≡ cond same (Some (bytes_at log at)) (map.get (kept_of (take at log)) name) → IsNewest log (at + 1) name (cond same (Some at) found)
    by true more = (omega arith, more)
    by false more = IsNewest_stays log at name found more newest

-- ---- the names of a log: the removal of one, and the first one that is not below some bytes

abbrev by_bytes : List ℕ → List ℕ → Ordering
by_bytes = slice_cmp nat_cmp

abbrev same : List ℕ → List ℕ → Bool
same = eq_by_cmp by_bytes

abbrev with_entry : Kept → List ℕ × List ℕ → Kept
with_entry kept entry = map.insert kept entry.0 entry.1

same_kept : (m n : Kept) → ((q : List ℕ) → map.get m q ≡ map.get n q) → m ≡ n
same_kept = map.same_map nat_list_cmp_total (map.slice_cmp-IsAntisymmetric map.nat_cmp-IsAntisymmetric)

-- THE REMOVAL OF A NAME

shadowed : {A : Type 0} (b : Bool) (x y z : A) → cond b x z ≡ cond b x (cond b y z)
shadowed true x y z = refl
shadowed false x y z = refl

swapped : {A : Type 0} (a b : Bool) (x y z : A) → (a ≡ true → b ≡ true → ⊥) → cond a x (cond b y z) ≡ cond b y (cond a x z)
swapped true true x y z apart = absurd (apart refl refl)
swapped true false x y z apart = refl
swapped false b x y z apart = refl

neither : {A : Type 0} (b : Bool) (x : A) → cond b x x ≡ x
neither true x = refl
neither false x = refl

get-after : (kept : Kept) (k v name q : List ℕ) → map.get (map.remove (map.insert kept k v) name) q ≡ cond (same q name) None (cond (same q k) (Some v) (map.get kept q))
get-after kept k v name q = map.get-remove nat_list_cmp_total (map.insert kept k v) name q ∙ ap (cond (same q name) None) (map.get-insert nat_list_cmp_total kept k v q)

-- an entry with the name goes
goes : (kept : Kept) (k v name : List ℕ) → same name k ≡ true → map.remove kept name ≡ map.remove (map.insert kept k v) name
goes kept k v name is =
    same_kept _ _ (λ q.
    let equiv = eq_by_cmp_equiv nat_list_cmp_total in
    let alike : same q name ≡ same q k = equiv.symm q name ∙ equiv.congr name k q is ∙ equiv.symm k q in
    map.get-remove nat_list_cmp_total kept name q
    ∙ shadowed (same q name) None (Some v) (map.get kept q)
    ∙ ap (λ b. cond (same q name) None (cond b (Some v) (map.get kept q))) alike
    ∙ sym (get-after kept k v name q))

-- an entry with another name stays
stays : (kept : Kept) (k v name : List ℕ) → same name k ≡ false → map.insert (map.remove kept name) k v ≡ map.remove (map.insert kept k v) name
stays kept k v name other =
    same_kept _ _ (λ q.
    let equiv = eq_by_cmp_equiv nat_list_cmp_total in
    map.get-insert nat_list_cmp_total (map.remove kept name) k v q
    ∙ ap (cond (same q k) (Some v)) (map.get-remove nat_list_cmp_total kept name q)
    ∙ swapped (same q k) (same q name) (Some v) None (map.get kept q) (λ a b. true≢false (sym a ∙ equiv.congr q name k b ∙ other))
    ∙ sym (get-after kept k v name q))

fold-removed : (log : List (List ℕ × List ℕ)) (name : List ℕ) (kept : Kept) → fold with_entry (map.remove kept name) (filter (λ e. not (bytes_eq name e.0)) log) ≡ map.remove (fold with_entry kept log) name
fold-removed [] name kept = refl
fold-removed (entry ∷ log) name kept = by (bytes_eq name entry.0) refl (fold-removed log name (with_entry kept entry))
  where
    rest : List (List ℕ × List ℕ)
    rest = filter (λ e. not (bytes_eq name e.0)) log

    by : (b : Bool) → bytes_eq name entry.0 ≡ b → fold with_entry (map.remove (with_entry kept entry) name) rest ≡ map.remove (fold with_entry (with_entry kept entry) log) name
        → fold with_entry (map.remove kept name) (cond (not b) (entry ∷ rest) rest) ≡ map.remove (fold with_entry (with_entry kept entry) log) name
    by true is later = ap (λ k. fold with_entry k rest) (goes kept entry.0 entry.1 name (is_eq-slice_cmp name entry.0 ∙ is)) ∙ later
    by false is later = ap (λ k. fold with_entry k rest) (stays kept entry.0 entry.1 name (is_eq-slice_cmp name entry.0 ∙ is)) ∙ later

abbrev no_entry : Kept
no_entry = map.empty

remove-empty : (name : List ℕ) → no_entry ≡ map.remove no_entry name
remove-empty name =
    same_kept _ _ (λ q.
    map.get-empty by_bytes q
    ∙ sym (map.get-remove nat_list_cmp_total no_entry name q ∙ ap (cond (same q name) None) (map.get-empty by_bytes q) ∙ neither (same q name) None))

-- a log without the entries of a name keeps nothing under it, and the rest as before
pub kept_of-removed : (log : List (List ℕ × List ℕ)) (name : List ℕ) → kept_of (filter (λ e. not (bytes_eq name e.0)) log) ≡ map.remove (kept_of log) name
kept_of-removed log name = ap (λ kept. fold with_entry kept (filter (λ e. not (bytes_eq name e.0)) log)) (remove-empty name) ∙ fold-removed log name no_entry

-- THE FIRST NAME THAT IS NOT BELOW SOME BYTES

abbrev names : List (List ℕ × List ℕ) → List (List ℕ)
names entries = each (λ e. e.0) entries

-- what is above a name that is not below some bytes is not below them
is_from_on : (from x y : List ℕ) → by_bytes x y ≡ Less → is_from from x ≡ true → is_from from y ≡ true
is_from_on from x y less above = le_of (by_bytes from y) (upto nat_list_cmp_total from x y (not_above (by_bytes from x) above) (ap is_gt less))
  where
    not_above : (r : Ordering) → is_le r ≡ true → is_gt r ≡ false
    not_above Less e = refl
    not_above Equal e = refl
    not_above Greater e = absurd (true≢false (sym e))

    le_of : (r : Ordering) → is_gt r ≡ false → is_le r ≡ true
    le_of Less e = refl
    le_of Equal e = refl
    le_of Greater e = absurd (true≢false e)

abbrev better : List ℕ → List ℕ → Option (List ℕ) → Option (List ℕ)
better from k found = cond (is_from from k && is_name_below k found) (Some k) found

in_front : (above : Bool) (k : List ℕ) (found : Option (List ℕ)) → (above ≡ true → is_name_below k found ≡ true) → cond above (Some k) found ≡ cond (above && is_name_below k found) (Some k) found
in_front true k found below = ap (λ b. cond b (Some k) found) (sym (below refl))
in_front false k found below = refl

in_place : (above : Bool) (k : List ℕ) (found : Option (List ℕ)) → (above ≡ true → found ≡ Some k) → found ≡ cond (above && is_name_below k found) (Some k) found
in_place true k found is = either (is_name_below k found)
  where
    either : (b : Bool) → found ≡ cond b (Some k) found
    either true = is refl
    either false = refl
in_place false k found is = refl

and-false : (b : Bool) → (b && false) ≡ false
and-false true = refl
and-false false = refl

first_of_put : (from : List ℕ) (k v : List ℕ) (es : List (List ℕ × List ℕ))
    → find (is_from from) (names (map.put by_bytes k v es)) ≡ better from k (find (is_from from) (names es))
first_of_put from k v [] = in_front (is_from from k) k None (λ _. refl)
first_of_put from k v (e ∷ es) = by (by_bytes k e.0) refl (first_of_put from k v es)
  where
    rest : Option (List ℕ)
    rest = find (is_from from) (names es)

    found : Option (List ℕ)
    found = cond (is_from from e.0) (Some e.0) rest

    first : is_from from e.0 ≡ true → found ≡ Some e.0
    first above = ap (λ b. cond b (Some e.0) rest) above

    put_later : Option (List ℕ)
    put_later = find (is_from from) (names (map.put by_bytes k v es))

    behind : by_bytes k e.0 ≡ Greater → put_later ≡ better from k rest → (b : Bool) → cond b (Some e.0) put_later ≡ better from k (cond b (Some e.0) rest)
    behind greater later true = sym (ap (λ b. cond b (Some k) (Some e.0)) (ap (λ r. is_from from k && is_lt r) greater ∙ and-false (is_from from k)))
    behind greater later false = later

    by : (r : Ordering) → by_bytes k e.0 ≡ r → put_later ≡ better from k rest → find (is_from from) (names (by_order r ((k, v) ∷ e ∷ es) ((e.0, v) ∷ es) (e ∷ map.put by_bytes k v es))) ≡ better from k found
    by Less less later = in_front (is_from from k) k found (λ above. ap (is_name_below k) (first (is_from_on from k e.0 less above)) ∙ ap is_lt less)
    by Equal equal later =
        let is = map.slice_cmp-IsAntisymmetric map.nat_cmp-IsAntisymmetric k e.0 equal in
        in_place (is_from from k) k found (λ above. first (ap (is_from from) (sym is) ∙ above) ∙ ap Some (sym is))
    by Greater greater later = behind greater later (is_from from e.0)

-- one more entry
first_of_more : (from : List ℕ) (log : List (List ℕ × List ℕ)) (at : ℕ) (entry : List ℕ × List ℕ) → at < length log → entry ≡ get_or log at entry
    → find (is_from from) (map.keys (kept_of (take (at + 1) log))) ≡ better from entry.0 (find (is_from from) (map.keys (kept_of (take at log))))
first_of_more from log at entry within is =
    let more : take (at + 1) log ≡ take at log ++ entry ∷ [] = take_more log at ([], []) within ∙ ap (λ e. take at log ++ e ∷ []) (sym (get_or_read log at entry within is ([], []))) in
    ap (λ l. find (is_from from) (map.keys (kept_of l))) more
    ∙ ap (λ kept. find (is_from from) (map.keys kept)) (fold_push with_entry map.empty (take at log) entry)
    ∙ ap (λ es. find (is_from from) (names es)) (map.entries-insert nat_list_cmp_total (kept_of (take at log)) entry.0 entry.1)
    ∙ first_of_put from entry.0 entry.1 (map.entries (kept_of (take at log)))

-- the first one, with a name that is before it or not
pub first_so_far : (from : List ℕ) (log : List (List ℕ × List ℕ)) (at : ℕ) (entry : List ℕ × List ℕ) (name : List ℕ) (found : Option (List ℕ)) (between : Bool)
    → at < length log → entry ≡ get_or log at entry → name ≡ entry.0 → between ≡ (is_from from name && is_name_below name found)
    → found ≡ find (is_from from) (map.keys (kept_of (take at log)))
    → cond between (Some name) found ≡ find (is_from from) (map.keys (kept_of (take (at + 1) log)))
first_so_far from log at entry name found between within is named tested so_far =
    ap (λ b. cond b (Some name) found) tested
    ∙ ap (λ n. better from n found) named
    ∙ ap (better from entry.0) so_far
    ∙ sym (first_of_more from log at entry within is)

-- no name is kept by a log of no entry
pub first_of_none : (from : List ℕ) → None ≡ find (is_from from) (map.keys (kept_of []))
first_of_none from = sym (ap (λ es. find (is_from from) (names es)) (nil_from_length (map.entries no_entry) (sym (map.len-entries no_entry) ∙ map.len-empty by_bytes (List ℕ))))
