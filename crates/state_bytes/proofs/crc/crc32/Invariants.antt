use Rattle.std.proofs.Common.{◌≡◌, take}
use Rattle.std.specs.List.{fold}
use Rattle.state_bytes.specs.Crc.{all_ones, crc_byte}
use Rattle.state_bytes.proofs.crc.crc32.Given as goal

abbrev pub invariant-loop-byte : goal.invariant-loop-byte
invariant-loop-byte l = l.sum ≡ fold crc_byte all_ones (take l.byte-index l.bytes)
