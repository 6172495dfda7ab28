use Rattle.std.proofs.Common.{◌≡◌, map, drop}
use Rattle.std.specs.String.{string_bytes}
use Rattle.pocket_c.specs.CommandDesk.{lack_name}
use Rattle.pocket_c.proofs.command_desk.lack_name.Given as goal

abbrev pub invariant-loop-word : goal.invariant-loop-word
invariant-loop-word l = lack_name l.desk.held (map string_bytes (drop l.word-index l.words)) ≡ lack_name l.desk.held (map string_bytes l.words)
