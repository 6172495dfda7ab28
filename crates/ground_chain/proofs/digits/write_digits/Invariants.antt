use Rattle.std.proofs.Common.{◌≡◌, ◌*◌, ◌++◌, take, drop}
use Rattle.hex.specs.Hex.{encode_lower}
use Rattle.ground_chain.proofs.digits.write_digits.Given as goal

-- the digits of the bytes so far, and those of the bytes that are left
abbrev pub invariant-loop-index : goal.invariant-loop-index
invariant-loop-index l = take (2 * l.index) l.digits ++ encode_lower (drop l.index l.bytes) ≡ encode_lower l.bytes
