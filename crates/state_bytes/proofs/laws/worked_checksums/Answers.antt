use Rattle.std.proofs.Common.{refl}
use Rattle.state_bytes.specs.Crc.{crc32, crc_byte, crc_step}
use Rattle.state_bytes.proofs.laws.worked_checksums.Goals as goal

pub returns-clause-none : goal.returns-clause-none
unfolding crc32
returns-clause-none c = refl

pub returns-clause-digits : goal.returns-clause-digits
unfolding crc32 crc_byte crc_step
returns-clause-digits c = refl
