use Rattle.std.proofs.Common.{◌≡◌, take, find, option_copied}
use Rattle.std.specs.FinMap as map
use Rattle.desk_ports.specs.Log.{kept_of}
use Rattle.desk_ports.specs.Names.{is_from}
use Rattle.desk_ports.proofs.memory.names.name_from.Given as goal

-- the first one of the entries so far
abbrev pub invariant-loop-entry : goal.invariant-loop-entry
invariant-loop-entry l = option_copied l.found ≡ find (is_from l.from) (map.keys (kept_of (take l.entry-index l.log)))
