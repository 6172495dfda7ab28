use Rattle.std.proofs.Common.{arith}
use Rattle.run_code.proofs.Upward.{moved_is}
use Rattle.run_code.proofs.words.moved.Goals as goal

pub returns-clause-number : goal.returns-clause-number
returns-clause-number c = moved_is c.args.bits c.args.at c.args.ones c.packed.result c.turned.result (omega (arith, c.ranges.at)) c.requires.ones c.turned.type_inv c.packed.ensures.bits c.turned.ensures
