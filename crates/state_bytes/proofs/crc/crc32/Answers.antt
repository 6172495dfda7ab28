use Rattle.std.proofs.Common.{List, ℕ, ap, ◌∙◌, arith}
use Rattle.std.specs.Int.Bits.{bit_xor}
use Rattle.std.specs.List.{fold}
use Rattle.std.proofs.lemmas.List.{take_all}
use Rattle.state_bytes.specs.Crc.{all_ones, crc32, crc_byte}
use Rattle.state_bytes.proofs.crc.crc32.Goals as goal

pub returns : goal.returns
unfolding crc32
returns c =
    ap (λ n. bit_xor n all_ones) (c.loop-byte.invariant ∙ ap (λ (xs : List ℕ). fold crc_byte all_ones xs) (take_all c.loop-byte.byte-index c.args.bytes.now (omega arith)))
