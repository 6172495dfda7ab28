use Rattle.std.proofs.Common.{sym}
use Rattle.run_code.proofs.Upward.{full_bit}
use Rattle.run_code.proofs.packing.unpacked.Goals as goal

pub returns-then-at-eq18446744073709551615-clause-bits : goal.returns-then-at-eq18446744073709551615-clause-bits
returns-then-at-eq18446744073709551615-clause-bits c i lt one = sym (full_bit c.args.number c.args.at i c.if-at-eq18446744073709551615.true lt)
