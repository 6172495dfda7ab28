use Rattle.std.proofs.Common.{rules}
use Rattle.state_bytes.specs.Crc.{crc_byte}
use Rattle.state_bytes.proofs.crc.with_byte.Goals as goal

pub returns : goal.returns
unfolding crc_byte
returns c = search rules
