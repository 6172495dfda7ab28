-- Ranks that rows claim of the numbers that they name.
use Rattle.std.specs.Prelude.{◌≡◌, ℕ, ◌+◌, ◌-◌, ◌%◌, ◌<◌, ◌≤◌, ◌⊎◌, Bool, true, if◌then◌else◌, List, length, slice_index_or, All, Contains}
use Rattle.bit_vectors.specs.declared.flags.Flags.{Flags}
use Rattle.side_tables.specs.declared.claims.Claim.{Claim}
use Rattle.side_tables.specs.declared.claims.Flag.{Flag}
use Rattle.side_tables.specs.declared.claims.Flag.TheVariants.{NewMask, SendMask, WholeContent}
use Rattle.side_tables.specs.declared.ranks.Cell.{Cell}
use Rattle.side_tables.specs.declared.ranks.RankRun.{RankRun}
use Rattle.side_tables.specs.declared.rows.FlagRow.{FlagRow}
use Rattle.side_tables.specs.declared.span.Span.{Span}
use Rattle.side_tables.specs.Rows.{flag_span, IsSpan, names}

-- whether the flag is set
abbrev pub flag_in : Flag → Flags → Bool
flag_in NewMask flags = flags.p
flag_in SendMask flags = flags.f
flag_in WholeContent flags = flags.r

-- what a row of flags claims by the flag: the rank 1 if it is set, and otherwise 0
abbrev pub flag_claim : Flag → ℕ → FlagRow → Claim
flag_claim flag place row = record { span = flag_span row; rank = if flag_in flag row.flags then 1 else 0 }

-- what the row at a place claims: its place, counted from 1
abbrev pub row_claim : {R : Type 0} → (R → Span) → ℕ → R → Claim
row_claim span_of place row = record { span = span_of row; rank = place + 1 }

abbrev pub no_claim : Claim
no_claim = record { span = record { first = 0; last = 0; step = 0 }; rank = 0 }

abbrev pub claim_at : List Claim → ℕ → Claim
claim_at claims k = slice_index_or claims k no_claim

-- a claim for each row
pub record AreClaims {R : Type 0} (claim_of : ℕ → R → Claim) (rows : List R) (claims : List Claim) : Type 0 where
  pub len : length claims ≡ length rows
  pub each : (k : ℕ) (default : R) → k < length rows → claim_at claims k ≡ claim_of k (slice_index_or rows k default)

-- Claims that are asked about, and for how many claims and how many ranks there is room.
pub record RankState : Type 0 where
  pub claims : List Claim
  pub claims_taken : ℕ
  pub cells_taken : ℕ

-- one of the claims gives the number this rank
pub record IsClaimed (claims : List Claim) (n rank : ℕ) : Type 0 where
  pub claim : Claim
  pub among : Contains claims claim
  pub named : names claim.span n ≡ true
  pub gives : claim.rank ≡ rank

-- the greatest rank that is claimed of the number, and 0 if none is
pub record IsRank (claims : List Claim) (n rank : ℕ) : Type 0 where
  pub own : (rank ≡ 0) ⊎ IsClaimed claims n rank
  pub most : All (λ claim. names claim.span n ≡ true → claim.rank ≤ rank) claims

-- ---- on the way

abbrev pub no_cell : Cell
no_cell = record { rank = 0; run = record { step = 0; until = 0; rank = 0 } }

abbrev pub cell_at : List Cell → ℕ → Cell
cell_at cells n = slice_index_or cells n no_cell

-- the ranks of so many numbers from one on
pub record AreRanks (claims : List Claim) (base numbers : ℕ) (cells : List Cell) : Type 0 where
  pub len : length cells ≡ numbers
  pub ranks : (n : ℕ) → n < numbers → IsRank claims (base + n) (cell_at cells n).rank

-- for how many numbers ranks can be found together
pub record IsBlock (numbers : ℕ) : Type 0 where
  pub some : 1 ≤ numbers
  pub few : numbers ≤ 16384

-- claims with the ranks of a block of numbers
pub record IsRanked (claims : List Claim) (base : ℕ) (cells : List Cell) : Type 0 where
  pub right : All (λ claim. IsSpan claim.span) claims
  pub block : IsBlock (length cells)
  pub ranks : AreRanks claims base (length cells) cells

-- all numbers of a run, in its steps from the number t, have at least its rank
abbrev pub RunHolds : List Cell → ℕ → RankRun → Type 0
RunHolds cells t run = (n : ℕ) → t ≤ n → n < run.until → n < length cells → (n - t) % run.step ≡ 0 → run.rank ≤ (cell_at cells n).rank

-- each number's run holds
abbrev pub RunsHold : List Cell → Type 0
RunsHold cells = (t : ℕ) → t < length cells → RunHolds cells t (cell_at cells t).run

-- the cells of a block, in which each number's run holds
pub record AreCells (cells : List Cell) : Type 0 where
  pub few : length cells ≤ 16384
  pub runs : RunsHold cells

-- a number that the claim names and that has a cell
pub record IsDue (claim : Claim) (t : ℕ) (cells : List Cell) : Type 0 where
  pub inside : t < length cells
  pub named : names claim.span t ≡ true

-- a run from the number t, in a claim's steps, whose numbers have the claim's rank
pub record Serves (claim : Claim) (t : ℕ) (run : RankRun) : Type 0 where
  pub steps : run.step ≡ claim.span.step
  pub enough : claim.rank ≤ run.rank
  pub after : t < run.until

-- a run that holds and serves the claim
pub record IsRunOf (claim : Claim) (t : ℕ) (cells : List Cell) (run : RankRun) : Type 0 where
  pub serves : Serves claim t run
  pub holds : RunHolds cells t run

-- the numbers of a claim have this rank now, or that which they had, and no rank is less
pub record TakesRank (named : ℕ → Bool) (rank : ℕ) (old new : List Cell) : Type 0 where
  pub len : length new ≡ length old
  pub grown : (n : ℕ) → (cell_at old n).rank ≤ (cell_at new n).rank
  pub own : (n : ℕ) → ((cell_at new n).rank ≡ (cell_at old n).rank) ⊎ (named n ≡ true) × ((cell_at new n).rank ≡ rank)

-- the numbers of a claim have at least this rank
abbrev pub HasRankAtLeast : (ℕ → Bool) → ℕ → List Cell → Type 0
HasRankAtLeast named rank cells = (n : ℕ) → n < length cells → named n ≡ true → rank ≤ (cell_at cells n).rank
