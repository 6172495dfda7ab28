use Rattle.std.proofs.Common.{◌≡◌, drop}
use Rattle.std.specs.List.{list_all}
use Rattle.side_tables.specs.Grammar.{is_letter}
use Rattle.side_tables.proofs.grammar.has_only_letters.Given as goal

abbrev pub invariant-loop-letter : goal.invariant-loop-letter
invariant-loop-letter l = list_all is_letter (drop l.letter-index l.letters) ≡ list_all is_letter l.letters
