use Rattle.std.proofs.Common.{rules}
use Rattle.state_bytes.specs.Crc.{crc_step}
use Rattle.state_bytes.proofs.crc.step.Goals as goal

pub returns-then-sum-eq1 : goal.returns-then-sum-eq1
unfolding crc_step
returns-then-sum-eq1 c = search rules

pub returns-else-sum-eq1 : goal.returns-else-sum-eq1
unfolding crc_step
returns-else-sum-eq1 c = search rules
