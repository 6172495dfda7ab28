-- A log of named bytes, the newest last, and what it keeps under each name.
use Rattle.std.specs.Prelude.{ℕ, List, [], slice_index_or}
use Rattle.std.specs.List.{fold}
use Rattle.std.specs.FinMap as map
use Rattle.desk_ports.specs.Meanings.{Kept}

-- the bytes of the newest entry of each name
abbrev pub kept_of : List (List ℕ × List ℕ) → Kept
kept_of log = fold (λ kept entry. map.insert kept entry.0 entry.1) map.empty log

-- the bytes of the entry at a place
abbrev pub bytes_at : List (List ℕ × List ℕ) → ℕ → List ℕ
bytes_at log at = (slice_index_or log at ([], [])).1
