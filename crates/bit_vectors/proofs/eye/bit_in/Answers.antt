use Rattle.std.proofs.Common.{sym, ◌-◌, ◌/◌, ◌%◌, get_or}
use Rattle.std.proofs.lemmas.Nat.Bits.{shr_and_one}
use Rattle.bit_vectors.proofs.NumberBits.{get_or-bits_of}
use Rattle.bit_vectors.proofs.eye.bit_in.Goals as goal

pub returns : goal.returns
returns c =
    rw (shr_and_one (get_or c.args.bytes.now (c.args.place / 8) 0) (7 - c.args.place % 8)) (sym (get_or-bits_of c.args.bytes.now c.args.place c.requires))
