use Rattle.std.proofs.Common.{arith}
use Rattle.run_code.proofs.Upward.{full_bit, full_count}
use Rattle.run_code.proofs.packing.packed.Goals as goal

pub returns-then-at-eq18446744073709551615-clause-bits : goal.returns-then-at-eq18446744073709551615-clause-bits
returns-then-at-eq18446744073709551615-clause-bits c i lt one = full_bit c.args.bits c.args.at i c.if-at-eq18446744073709551615.true lt

pub returns-then-at-eq18446744073709551615-clause-fits : goal.returns-then-at-eq18446744073709551615-clause-fits
returns-then-at-eq18446744073709551615-clause-fits c = rw (full_count c.args.at c.if-at-eq18446744073709551615.true) (omega (arith, c.ranges.bits))
