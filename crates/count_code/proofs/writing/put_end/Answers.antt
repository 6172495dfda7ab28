use Rattle.std.proofs.Common.{refl}
use Rattle.count_code.proofs.CountWords.{two_in_two}
use Rattle.count_code.proofs.writing.put_end.Goals as goal

pub returns-clause-bits : goal.returns-clause-bits
returns-clause-bits c = rw (c.put_word.ensures.bits, two_in_two) refl
