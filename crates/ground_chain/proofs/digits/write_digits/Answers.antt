use Rattle.std.proofs.Common.{arith}
use Rattle.hex.specs.Hex.{lower_digits}
use Rattle.hex.proofs.Pairs.{encode_step, encode_done}
use Rattle.ground_chain.proofs.digits.write_digits.Goals as goal

pub loop-index-preserved : goal.loop-index-preserved
loop-index-preserved c =
    encode_step lower_digits c.args.bytes.now c.loop-index.digits c.loop-index.index _ _ (omega arith) (omega arith) c.digits_of.ensures.high c.digits_of.ensures.low c.loop-index.invariant

pub returns : goal.returns
returns c =
    encode_done _ _ _ c.loop-index.index (omega arith) (omega arith) c.loop-index.invariant
