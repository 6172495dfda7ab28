-- Claims of rows, one after another: ranks that are claimed of numbers, and what the greatest ones say.
use Rattle.std.specs.Cmp.{both_ways}
use Rattle.std.specs.List.{list_any}
use Rattle.std.specs.List.Sorted.{IsPermutation}
use Rattle.std.proofs.Common.{◌≡◌, ℕ, ◌+◌, ◌∙◌, ◌<◌, inl, inr, List, [], ◌∷◌, ◌++◌, length, get_or, take, sym, ap, arith, ◌-◌, ◌*◌, ◌/◌, ◌%◌, ◌≤◌, ◌⊎◌, Bool, true, false, leb-true, All, Contains, refl, subst, rules, zero, suc, ◌||◌, ◌&&◌, cond, find, reverse, Option, Some, None, nat_lt}
use Rattle.std.proofs.Math.Nat.{add-mul-mod_self_left, div-add-mod}
use Rattle.std.proofs.lemmas.Bool.{cases_lt, and_from, and_parts, le-leb, false_from_ne_true, lt-ltb, ltb-true}
use Rattle.std.proofs.lemmas.List.{get_or_append_left, get_or_push, get_or_default, get_or-take, length-take-le, length_push, reverse-append}
use Rattle.std.proofs.lemmas.List.Elements.{All-from_get_or, All-get_or, All-push, All-head, All-tail}
use Rattle.std.proofs.lemmas.List.Folds.{Any-from_list_any, list_any_at}
use Rattle.std.proofs.lemmas.List.Sorted.{All-permutation, Contains-permutation}
use Rattle.std.proofs.lemmas.Option.{slice_get-get_or}
use Rattle.bit_vectors.specs.declared.flags.Flags.{Flags}
use Rattle.side_tables.specs.Columns.{AreFlagRanks, AreLatestRanks, IsLatestRank}
use Rattle.side_tables.specs.Ranks.{AreClaims, claim_at, no_claim, HasRankAtLeast, IsClaimed, IsRank, RunHolds, Serves, TakesRank, cell_at, flag_claim, flag_in, row_claim}
use Rattle.side_tables.specs.Rows.{names, flag_span, flags_of, gives_flag, last_row, no_flags}
use Rattle.side_tables.specs.declared.claims.Claim.{Claim}
use Rattle.side_tables.specs.declared.claims.Flag.{Flag}
use Rattle.side_tables.specs.declared.claims.Flag.TheVariants.{NewMask, SendMask, WholeContent}
use Rattle.side_tables.specs.declared.ranks.Cell.{Cell}
use Rattle.side_tables.specs.declared.ranks.RankRun.{RankRun}
use Rattle.side_tables.specs.declared.rows.FlagRow.{FlagRow}
use Rattle.side_tables.specs.declared.span.Span.{Span}

-- ---- claims of rows, one row after another

-- a claim of the next row
pub AreClaims-more : {R : Type 0} (claim_of : ℕ → R → Claim) (rows : List R) (claims : List Claim) (place : ℕ) (row : R) (claim : Claim) → place < length rows → row ≡ get_or rows place row → claim ≡ claim_of place row
    → AreClaims claim_of (take place rows) claims → AreClaims claim_of (take (place + 1) rows) (claims ++ claim ∷ [])
AreClaims-more claim_of rows claims place row claim inside at is are =
    let old : length (take place rows) ≡ place = length-take-le place rows (omega (arith, inside)) in
    let new : length (take (place + 1) rows) ≡ place + 1 = length-take-le (place + 1) rows (omega (arith, inside)) in
    let len : length claims ≡ place = are.len ∙ old in
    record {
      len = length_push claims claim ∙ (ap (λ n. n + 1) len ∙ sym new);
      each = λ k default within. elim (cases_lt k place) [
        | inl before ↦
            let early : k < length claims = omega (arith, before, len) in
            let here : claim_at claims k ≡ claim_of k (get_or (take place rows) k default) = are.each k default (omega (arith, before, old)) in
            get_or_append_left claims (claim ∷ []) no_claim k early ∙ (here ∙ ap (claim_of k) (get_or-take place rows k default before ∙ sym (get_or-take (place + 1) rows k default (omega (arith, before)))))
        | inr on ↦
            let last : place ≡ k = omega (arith, on, within, new) in
            rw (← last) (get_or_push claims claim no_claim place len ∙ (is ∙ ap (claim_of place) (at ∙ (get_or_default rows place row default inside ∙ sym (get_or-take (place + 1) rows place default (omega arith))))))
      ];
    }

-- ---- steps

-- two numbers in whole steps from a third are in whole steps from one another
pub steps_between : (s first t n : ℕ) → first ≤ t → t ≤ n → (t - first) % s ≡ 0 → (n - first) % s ≡ 0 → (n - t) % s ≡ 0
steps_between s first t n begun order one two =
    let whole : s * ((t - first) / s) + (t - first) % s ≡ t - first = div-add-mod (t - first) s in
    let sum : n - first ≡ (n - t) + s * ((t - first) / s) = omega (arith, whole, one, begun, order) in
    sym (add-mul-mod_self_left (n - t) s ((t - first) / s)) ∙ (ap (λ k. k % s) (sym sum) ∙ two)

-- a number in whole steps from one that is in whole steps from another is so from that too
pub steps_joined : (s first t n : ℕ) → first ≤ t → t ≤ n → (t - first) % s ≡ 0 → (n - t) % s ≡ 0 → (n - first) % s ≡ 0
steps_joined s first t n begun order one two =
    let whole : s * ((t - first) / s) + (t - first) % s ≡ t - first = div-add-mod (t - first) s in
    let sum : n - first ≡ (n - t) + s * ((t - first) / s) = omega (arith, whole, one, begun, order) in
    ap (λ k. k % s) sum ∙ (add-mul-mod_self_left (n - t) s ((t - first) / s) ∙ two)

-- what naming a number means
pub record IsNamed (span : Span) (n : ℕ) : Type 0 where
  pub from : span.first ≤ n
  pub to : n ≤ span.last
  pub steps : (n - span.first) % span.step ≡ 0

pub named-parts : (span : Span) (n : ℕ) → names span n ≡ true → IsNamed span n
named-parts span n is =
    let both = and_parts _ _ is in
    let range = and_parts _ _ both.0 in
    record { from = leb-true _ _ range.0; to = leb-true _ _ range.1; steps = search (rules, both.1) }

pub named-from : (span : Span) (n : ℕ) → IsNamed span n → names span n ≡ true
named-from span n is = and_from _ _ (and_from _ _ (le-leb _ _ is.from) (le-leb _ _ is.to)) (rw is.steps refl)

-- the numbers of a span, counted from one on
pub names-from : (span : Span) (base first n : ℕ) → base ≤ first → names span first ≡ true → ((m : ℕ) → base ≤ m → m < first → names span m ≡ false)
    → names (record { first = first - base; last = span.last - base; step = span.step }) n ≡ names span (base + n)
names-from span base first n from is none =
    let start = named-parts span first is in
    let shifted : Span = record { first = first - base; last = span.last - base; step = span.step } in
    let begin = start.from in
    let end = start.to in
    both_ways _ _
    (λ there.
    let at = named-parts shifted n there in
    let past : first - base ≤ n = at.from in
    let within : n ≤ span.last - base = at.to in
    let more : first ≤ base + n = omega (arith, past, from) in
    let whole : (base + n - first) % span.step ≡ 0 = ap (λ d. d % span.step) (let same : base + n - first ≡ n - (first - base) = omega (arith, past, from) in same) ∙ at.steps in
    named-from span (base + n) (record { from = omega (arith, begin, more); to = omega (arith, within, end, from); steps = steps_joined span.step span.first first (base + n) begin more start.steps whole }))
    (λ here.
    let at = named-parts span (base + n) here in
    let more : first ≤ base + n = elim (cases_lt (base + n) first) [
      | inl before ↦ let isnt = none (base + n) (omega arith) before in absurd cc
      | inr on ↦ on
    ] in
    let within : base + n ≤ span.last = at.to in
    let whole : (base + n - first) % span.step ≡ 0 = steps_between span.step span.first first (base + n) begin more start.steps at.steps in
    named-from shifted n (record { from = omega (arith, more, from); to = omega (arith, within); steps = ap (λ d. d % span.step) (let same : n - (first - base) ≡ base + n - first = omega (arith, more, from) in same) ∙ whole }))

-- ---- taking a claim

own-then : (named : Type 0) (a b d rank : ℕ) → (b ≡ a) ⊎ named × (b ≡ rank) → (d ≡ b) ⊎ named × (d ≡ rank) → (d ≡ a) ⊎ named × (d ≡ rank)
own-then named a b d rank one (inr two) = inr two
own-then named a b d rank (inl one) (inl two) = inl (two ∙ one)
own-then named a b d rank (inr one) (inl two) = inr (one.0, two ∙ one.1)

pub TakesRank-then : (named : ℕ → Bool) (rank : ℕ) (a b d : List Cell) → TakesRank named rank a b → TakesRank named rank b d → TakesRank named rank a d
TakesRank-then named rank a b d one two = record {
  len = two.len ∙ one.len;
  grown = λ n. let less = one.grown n in let more = two.grown n in omega (arith, less, more);
  own = λ n. own-then (named n ≡ true) (cell_at a n).rank (cell_at b n).rank (cell_at d n).rank rank (one.own n) (two.own n);
}

-- the numbers from t on, in steps
abbrev pub steps_from : ℕ → ℕ → Span
steps_from t step = record { first = t; last = 4294967295; step = step }

-- a run, and the one from the next number in its steps
pub RunHolds-joined : (claim : Claim) (cells : List Cell) (t next : ℕ) (run further : RankRun) → length cells ≤ 16384
    → RunHolds cells t run → RunHolds cells next further → Serves claim t run → Serves claim next further
    → names (steps_from t run.step) next ≡ true → ((n : ℕ) → run.until ≤ n → n < next → names (steps_from t run.step) n ≡ false)
    → RunHolds cells t (record { step = run.step; until = further.until; rank = claim.rank })
RunHolds-joined claim cells t next run further few one two serves more named none n from until inside steps = elim (cases_lt n run.until) [
  | inl before ↦ let has = one n from before inside steps in let enough = serves.enough in omega (arith, has, enough)
  | inr past ↦ elim (cases_lt n next) [
    | inl between ↦ let is = named-from (steps_from t run.step) n (record { from = from; to = omega arith; steps = steps }) in let isnt = none n past between in absurd cc
    | inr on ↦
        let start = named-parts (steps_from t run.step) next named in
        let same : further.step ≡ run.step = more.steps ∙ sym serves.steps in
        let apart : (n - next) % further.step ≡ 0 = ap (λ s. (n - next) % s) same ∙ steps_between run.step t next n start.from on start.steps steps in
        let has = two n on until inside apart in
        let enough = more.enough in
        omega (arith, has, enough)
  ]
]

-- ---- the greatest ranks

-- each number's rank is 0 or is claimed of it, if the numbers are counted from one on
abbrev pub AreClaimed : List Claim → ℕ → List Cell → Type 0
AreClaimed claims base cells = (n : ℕ) → ((cell_at cells n).rank ≡ 0) ⊎ IsClaimed claims (base + n) (cell_at cells n).rank

-- the numbers have the ranks of all claims
abbrev pub HaveRanks : List Claim → ℕ → List Cell → Type 0
HaveRanks claims base cells = (n : ℕ) → n < length cells → All (λ claim. names claim.span (base + n) ≡ true → claim.rank ≤ (cell_at cells n).rank) claims

weaker : (P Q : Claim → Type 0) (claims : List Claim) → ((claim : Claim) → P claim → Q claim) → All P claims → All Q claims
weaker P Q claims less all = All-from_get_or Q claims no_claim (λ k inside. less (claim_at claims k) (All-get_or P claims k no_claim inside all))

own_more : (claims : List Claim) (claim : Claim) (n old new : ℕ) → Contains claims claim → (old ≡ 0) ⊎ IsClaimed claims n old → (new ≡ old) ⊎ (names claim.span n ≡ true) × (new ≡ claim.rank)
    → (new ≡ 0) ⊎ IsClaimed claims n new
own_more claims claim n old new among own (inr taken) = inr (record { claim = claim; among = among; named = taken.0; gives = sym taken.1 })
own_more claims claim n old new among (inl none) (inl same) = inl (same ∙ none)
own_more claims claim n old new among (inr is) (inl same) = inr (subst (IsClaimed claims n) (sym same) is)

-- one of the claims is taken
pub AreClaimed-more : (claims : List Claim) (claim : Claim) (base : ℕ) (old new : List Cell) → Contains claims claim → AreClaimed claims base old → TakesRank (λ n. names claim.span (base + n)) claim.rank old new → AreClaimed claims base new
AreClaimed-more claims claim base old new among are takes = λ n. own_more claims claim (base + n) (cell_at old n).rank (cell_at new n).rank among (are n) (takes.own n)

pub HaveRanks-more : (claims : List Claim) (claim : Claim) (base : ℕ) (old new : List Cell) → HaveRanks claims base old → TakesRank (λ n. names claim.span (base + n)) claim.rank old new → HasRankAtLeast (λ n. names claim.span (base + n)) claim.rank new
    → HaveRanks (claims ++ claim ∷ []) base new
HaveRanks-more claims claim base old new have takes taken = λ n inside.
    All-push (λ (c : Claim). names c.span (base + n) ≡ true → c.rank ≤ (cell_at new n).rank) claims claim
    (weaker (λ c. names c.span (base + n) ≡ true → c.rank ≤ (cell_at old n).rank) (λ c. names c.span (base + n) ≡ true → c.rank ≤ (cell_at new n).rank) claims
    (λ c less named. let most = less named in let more = takes.grown n in omega (arith, most, more)) (have n (let len = takes.len in omega (arith, len, inside)))) (taken n inside)

own_permuted : (claims others : List Claim) (n rank : ℕ) → IsPermutation claims others → (rank ≡ 0) ⊎ IsClaimed claims n rank → (rank ≡ 0) ⊎ IsClaimed others n rank
own_permuted claims others n rank same (inl none) = inl none
own_permuted claims others n rank same (inr is) = inr (record { claim = is.claim; among = Contains-permutation claims others is.claim same is.among; named = is.named; gives = is.gives })

-- claims in another order
pub IsRank-permuted : (claims others : List Claim) (n rank : ℕ) → IsPermutation claims others → IsRank claims n rank → IsRank others n rank
IsRank-permuted claims others n rank same is = record {
  own = own_permuted claims others n rank same is.own;
  most = All-permutation (λ (c : Claim). names c.span n ≡ true → c.rank ≤ rank) claims others same is.most;
}

-- the numbers before one that the claim names, as far as there are cells, have its rank
abbrev pub HasReached : Claim → List Cell → ℕ → Type 0
HasReached claim cells reached = (n : ℕ) → n < reached → n < length cells → names claim.span n ≡ true → claim.rank ≤ (cell_at cells n).rank

-- the next number that the claim names, and the run from there on
pub HasReached-more : (claim : Claim) (old new : List Cell) (reached t until : ℕ) → HasReached claim old reached → TakesRank (names claim.span) claim.rank old new → names claim.span t ≡ true
    → ((n : ℕ) → reached ≤ n → n < t → names claim.span n ≡ false) → RunHolds new t (record { step = claim.span.step; until = until; rank = claim.rank }) → HasReached claim new until
HasReached-more claim old new reached t until before takes is none holds n below inside named = elim (cases_lt n reached) [
  | inl early ↦ let had = before n early (let len = takes.len in omega arith) named in let grown = takes.grown n in omega (arith, had, grown)
  | inr past ↦ elim (cases_lt n t) [
    | inl between ↦ let isnt = none n past between in absurd cc
    | inr on ↦
        let first = named-parts claim.span t is in
        let there = named-parts claim.span n named in
        holds n on below inside (steps_between claim.span.step claim.span.first t n first.from on first.steps there.steps)
  ]
]

-- ---- flags

abbrev pub no_row : FlagRow
no_row = record { first = 0; last = 0; step = 0; flags = no_flags }

together : (flags others : Flags) → flags.p ≡ others.p → flags.f ≡ others.f → flags.r ≡ others.r → flags ≡ others
together flags others p f r = λ i. record { p = p i; f = f i; r = r i }

none_given : (is flag rest : Bool) → is ≡ false → rest ≡ false → (is && flag || rest) ≡ false
none_given false flag rest other none = none
none_given true flag rest other none = absurd cc

-- if no row names the number, none gives it a flag
pub flags_of-none : (rows : List FlagRow) (t : ℕ) → All (λ row. names (flag_span row) t ≡ false) rows → flags_of rows t ≡ no_flags
flags_of-none rows t none = together (flags_of rows t) no_flags (no_flag (λ flags. flags.p) rows none) (no_flag (λ flags. flags.f) rows none) (no_flag (λ flags. flags.r) rows none)
  where
    no_flag : (flag : Flags → Bool) (rows : List FlagRow) → All (λ row. names (flag_span row) t ≡ false) rows → list_any (gives_flag flag t) rows ≡ false
    no_flag flag [] none = refl
    no_flag flag (row ∷ rows) none =
        none_given (names (flag_span row) t) (flag row.flags) (list_any (gives_flag flag t) rows) (All-head (λ row. names (flag_span row) t ≡ false) row rows none) (no_flag flag rows (All-tail (λ row. names (flag_span row) t ≡ false) row rows none))

-- ---- the last row that passes a test

-- what was found, or what the last element gives
abbrev or_last : {X : Type 0} → (X → Bool) → X → Option X → Option X
or_last p y None = cond (p y) (Some y) None
or_last p y (Some x) = Some x

push_first : {X : Type 0} (p : X → Bool) (y x : X) (first : Bool) (new old : Option X) → new ≡ or_last p y old → cond first (Some x) new ≡ or_last p y (cond first (Some x) old)
push_first p y x true new old same = refl
push_first p y x false new old same = same

find-push : {X : Type 0} (p : X → Bool) (xs : List X) (y : X) → find p (xs ++ y ∷ []) ≡ or_last p y (find p xs)
find-push p [] y = refl
find-push p (x ∷ xs) y = push_first p y x (p x) (find p (xs ++ y ∷ [])) (find p xs) (find-push p xs y)

find-reverse : {X : Type 0} (p : X → Bool) (x : X) (xs : List X) → find p (reverse (x ∷ xs)) ≡ or_last p x (find p (reverse xs))
find-reverse p x xs = rw (reverse-append (x ∷ []) xs) (find-push p (reverse xs) x)

pub find-reverse_none : {X : Type 0} (p : X → Bool) (rows : List X) (d : X) → ((k : ℕ) → k < length rows → p (get_or rows k d) ≡ false) → find p (reverse rows) ≡ None
find-reverse_none p [] d none = refl
find-reverse_none p (x ∷ rows) d none =
    let rest = find-reverse_none p rows d (λ k inside. none (suc k) (omega arith)) in
    find-reverse p x rows ∙ rw (rest, none 0 (omega arith)) refl

pub find-reverse_last : {X : Type 0} (p : X → Bool) (rows : List X) (place : ℕ) (d : X) → place < length rows → p (get_or rows place d) ≡ true
    → ((k : ℕ) → place < k → k < length rows → p (get_or rows k d) ≡ false) → find p (reverse rows) ≡ Some (get_or rows place d)
find-reverse_last p [] place d inside passes later = absurd (omega arith)
find-reverse_last p (x ∷ rows) zero d inside passes later =
    let rest = find-reverse_none p rows d (λ k within. later (suc k) (omega arith) (omega arith)) in
    find-reverse p x rows ∙ rw (rest, passes) refl
find-reverse_last p (x ∷ rows) (suc place) d inside passes later =
    let rest = find-reverse_last p rows place d (omega arith) passes (λ k after within. later (suc k) (omega arith) (omega arith)) in
    find-reverse p x rows ∙ rw rest refl

-- if no row names the number, there is no last one that does
pub last_row-none : {R : Type 0} (span_of : R → Span) (rows : List R) (t : ℕ) → All (λ row. names (span_of row) t ≡ false) rows → last_row span_of rows t ≡ None
last_row-none span_of [] t none = refl
last_row-none span_of (row ∷ rows) t none =
    find-reverse_none (λ row. names (span_of row) t) (row ∷ rows) row (λ k inside. All-get_or (λ row. names (span_of row) t ≡ false) (row ∷ rows) k row inside none)

-- ---- what the greatest ranks say of the rows

-- the row that a claim is of
record IsOf {R : Type 0} (claim_of : ℕ → R → Claim) (rows : List R) (default : R) (claim : Claim) : Type 0 where
  pub place : ℕ
  pub inside : place < length rows
  pub same : claim ≡ claim_of place (get_or rows place default)

of_row : {R : Type 0} (claim_of : ℕ → R → Claim) (rows : List R) (claims : List Claim) (default : R) (claim : Claim) → AreClaims claim_of rows claims → Contains claims claim → IsOf claim_of rows default claim
of_row claim_of rows claims default claim are (k, inside, is) =
    let within : k < length rows = let len = are.len in omega arith in
    record { place = k; inside = within; same = sym is ∙ (get_or_default claims k claim no_claim inside ∙ are.each k default within) }

-- the rank is no less than what a row claims of the number
most_of : {R : Type 0} (claim_of : ℕ → R → Claim) (rows : List R) (claims : List Claim) (n rank k : ℕ) (default : R) → AreClaims claim_of rows claims → IsRank claims n rank → k < length rows
    → names (claim_of k (get_or rows k default)).span n ≡ true → (claim_of k (get_or rows k default)).rank ≤ rank
most_of claim_of rows claims n rank k default are is inside named =
    let within : k < length claims = let len = are.len in omega arith in
    let most : names (claim_at claims k).span n ≡ true → (claim_at claims k).rank ≤ rank = All-get_or (λ (c : Claim). names c.span n ≡ true → c.rank ≤ rank) claims k no_claim within is.most in
    subst (λ (c : Claim). names c.span n ≡ true → c.rank ≤ rank) (are.each k default inside) most named

-- ---- flags

flag_set : (b : Bool) (rank : ℕ) → 0 < rank → cond b 1 0 ≡ rank → b ≡ true
flag_set true rank some is = refl
flag_set false rank some is = absurd (omega (arith, some, is))

flag_most : (b : Bool) (rank : ℕ) → b ≡ true → cond b 1 0 ≤ rank → 0 < rank
flag_most true rank is most = omega arith
flag_most false rank is most = absurd cc

some_claimed : (claims : List Claim) (n rank : ℕ) → 0 < rank → (rank ≡ 0) ⊎ IsClaimed claims n rank → IsClaimed claims n rank
some_claimed claims n rank some (inl none) = absurd (omega arith)
some_claimed claims n rank some (inr is) = is

pub flags-by_rank : (flag : Flag) (rows : List FlagRow) (claims : List Claim) (n rank : ℕ) → AreClaims (flag_claim flag) rows claims → IsRank claims n rank
    → nat_lt 0 rank ≡ list_any (gives_flag (flag_in flag) n) rows
flags-by_rank flag rows claims n rank are is = both_ways _ _
    (λ positive.
    let some : 0 < rank = ltb-true 0 rank positive in
    let claimed = some_claimed claims n rank some is.own in
    let of = of_row (flag_claim flag) rows claims no_row claimed.claim are claimed.among in
    let row = get_or rows of.place no_row in
    let named : names (flag_span row) n ≡ true = ap (λ (c : Claim). names c.span n) (sym of.same) ∙ claimed.named in
    let set : flag_in flag row.flags ≡ true = flag_set (flag_in flag row.flags) rank some (ap (λ (c : Claim). c.rank) (sym of.same) ∙ claimed.gives) in
    list_any_at (gives_flag (flag_in flag) n) rows of.place no_row of.inside (and_from _ _ named set))
    (λ any.
    let found = Any-from_list_any (gives_flag (flag_in flag) n) rows any in
    let at : get_or rows found.0 no_row ≡ found.1 = get_or_default rows found.0 no_row found.1 found.2 ∙ found.3 in
    let gives = and_parts _ _ (ap (gives_flag (flag_in flag) n) at ∙ found.4) in
    let most = most_of (flag_claim flag) rows claims n rank found.0 no_row are is found.2 gives.0 in
    let some = flag_most (flag_in flag (get_or rows found.0 no_row).flags) rank gives.1 most in
    lt-ltb 0 rank some)

-- ---- the last row

pub latest-by_rank : {R : Type 0} (span_of : R → Span) (rows : List R) (claims : List Claim) (n rank : ℕ) → AreClaims (row_claim span_of) rows claims → IsRank claims n rank → IsLatestRank span_of rows n rank
latest-by_rank {R = R} span_of rows claims n zero are is = record { inside = omega arith; row = no_last rows are }
  where
    no_last : (rows : List R) → AreClaims (row_claim span_of) rows claims → last_row span_of rows n ≡ None
    no_last [] are = refl
    no_last (row ∷ rows) are = find-reverse_none (λ row. names (span_of row) n) (row ∷ rows) row (λ k inside. false_from_ne_true _ (λ named.
        let most = most_of (row_claim span_of) (row ∷ rows) claims n 0 k row are is inside named in absurd (omega arith)))
latest-by_rank {R = R} span_of rows claims n (suc place) are is = by_rows rows are
  where
    claimed : IsClaimed claims n (suc place)
    claimed = some_claimed claims n (suc place) (omega arith) is.own

    by_rows : (rows : List R) → AreClaims (row_claim span_of) rows claims → IsLatestRank span_of rows n (suc place)
    by_rows [] are = let len = are.len in let among = claimed.among.1 in absurd (omega arith)
    by_rows (row ∷ rows) are =
        let of = of_row (row_claim span_of) (row ∷ rows) claims row claimed.claim are claimed.among in
        let rank : of.place + 1 ≡ suc place = ap (λ (c : Claim). c.rank) (sym of.same) ∙ claimed.gives in
        let at : of.place ≡ place = omega (arith, rank) in
        let inside : place < length (row ∷ rows) = let there = of.inside in omega (arith, at, there) in
        let named : names (span_of (get_or (row ∷ rows) place row)) n ≡ true = ap (λ k. names (span_of (get_or (row ∷ rows) k row)) n) (sym at) ∙ (ap (λ (c : Claim). names c.span n) (sym of.same) ∙ claimed.named) in
        record {
          inside = omega arith;
          row = find-reverse_last (λ row. names (span_of row) n) (row ∷ rows) place row inside named (λ k after within. false_from_ne_true _ (λ also.
              let most = most_of (row_claim span_of) (row ∷ rows) claims n (suc place) k row are is within also in absurd (omega arith)))
              ∙ sym (slice_get-get_or (row ∷ rows) place row inside);
        }

-- ---- all numbers

pub AreFlagRanks-from : (flag : Flag) (rows : List FlagRow) (claims : List Claim) → AreClaims (flag_claim flag) rows claims → AreFlagRanks flag rows claims
AreFlagRanks-from NewMask rows claims are n rank is = flags-by_rank NewMask rows claims n rank are is
AreFlagRanks-from SendMask rows claims are n rank is = flags-by_rank SendMask rows claims n rank are is
AreFlagRanks-from WholeContent rows claims are n rank is = flags-by_rank WholeContent rows claims n rank are is

pub AreLatestRanks-from : {R : Type 0} (span_of : R → Span) (rows : List R) (claims : List Claim) → AreClaims (row_claim span_of) rows claims → AreLatestRanks span_of rows claims
AreLatestRanks-from span_of rows claims are n rank is = latest-by_rank span_of rows claims n rank are is
