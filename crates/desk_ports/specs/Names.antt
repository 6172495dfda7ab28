-- Names in the order of their bytes, and a desk in memory without one of them.
use Rattle.std.specs.Prelude.{ℕ, Bool, true, List, Option, None, Some}
use Rattle.std.specs.Cmp.Lexicographic.{slice_cmp}
use Rattle.std.specs.FinMap as map
use Rattle.std.specs.Ordering.{is_le, is_lt, nat_cmp}
use Rattle.desk_ports.specs.MemState.{MemState, closed_incoming}

-- a name is not below these bytes
abbrev pub is_from : List ℕ → List ℕ → Bool
is_from from name = is_le (slice_cmp nat_cmp from name)

-- a name is below another one, if there is one
abbrev pub is_name_below : List ℕ → Option (List ℕ) → Bool
is_name_below name None = true
is_name_below name (Some high) = is_lt (slice_cmp nat_cmp name high)

-- after the removal of a name: nothing is kept under it, and no inlet is open. All else is as before
abbrev pub without_name : MemState → List ℕ → MemState
without_name state name = record state { side = closed_incoming; input = closed_incoming; held = map.remove state.held name }
