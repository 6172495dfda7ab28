use Rattle.std.proofs.Common.{◌≡◌, ◌-◌, length, drop}
use Rattle.bit_vectors.specs.Vectors.{bits_of}
use Rattle.pocket_cmd.proofs.Given.{one_of}
use Rattle.pocket_cmd.proofs.mask.has_spare_bit.Given as goal

-- none of the bits so far is a spare one that is 1
abbrev pub invariant-bits : goal.invariant-bits
invariant-bits l =
    (l.eye.bits ≡ bits_of l.bytes)
    × (one_of (drop (l.f - l.eye.place) (drop l.eye.place l.eye.bits)) ≡ one_of (drop l.f (bits_of l.bytes)))

abbrev pub decreases-bits : goal.decreases-bits
decreases-bits l = length (drop l.eye.place l.eye.bits)
