use Rattle.std.proofs.Common.{arith}
use Rattle.bit_vectors.proofs.WordBytes.{mixed_below, mixed_front, mixed_others}
use Rattle.bit_vectors.proofs.reading.with_front.Goals as goal

pub overflow_add-result : goal.overflow_add-result
overflow_add-result c = omega (arith, mixed_below c.args.word c.args.front c.args.width c.requires.some c.requires.most (omega (arith, c.ranges.front)))

pub returns-clause-front : goal.returns-clause-front
returns-clause-front c = mixed_front c.args.word c.args.front c.args.width c.requires.some c.requires.most (omega (arith, c.ranges.front))

pub returns-clause-others : goal.returns-clause-others
returns-clause-others c = mixed_others c.args.word c.args.front c.args.width c.requires.some c.requires.most (omega (arith, c.ranges.front))
