use Rattle.std.proofs.Common.{rules}
use Rattle.state_bytes.specs.Parts.{number_bytes}
use Rattle.state_bytes.proofs.number.put_number.Goals as goal

pub returns : goal.returns
unfolding number_bytes
returns c = search rules
