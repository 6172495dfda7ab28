use Rattle.std.proofs.Common.{arith}
use Rattle.bit_vectors.proofs.WordBytes.{Shows-none, Shows-left}
use Rattle.bit_vectors.proofs.eye.word_left.Goals as goal

pub returns-then-passed-eq64 : goal.returns-then-passed-eq64
returns-then-passed-eq64 c bits most shows = rw c.if-passed-eq64.true (Shows-none bits most)

pub returns-else-passed-eq64 : goal.returns-else-passed-eq64
returns-else-passed-eq64 c bits most shows = Shows-left bits c.args.word c.args.passed (omega (arith, c.requires)) most shows
