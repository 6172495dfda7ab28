-- What is kept of the arrivals of several streams.
use Rattle.std.specs.Prelude.{ℕ, List, slice_index_or}
use Rattle.ground_chain.specs.Reception.{Reckoning, nothing_judged}

-- what is kept of a stream, by its index
abbrev pub reckoning_at : List Reckoning → ℕ → Reckoning
reckoning_at reckonings stream = slice_index_or reckonings stream (nothing_judged 0)
