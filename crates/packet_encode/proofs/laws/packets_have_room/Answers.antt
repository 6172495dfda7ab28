use Rattle.std.proofs.Common.{arith}
use Rattle.packet_encode.proofs.Packets.{form_at-most, places_most}
use Rattle.packet_encode.proofs.laws.packets_have_room.Goals as goal

pub returns-clause-bits : goal.returns-clause-bits
returns-clause-bits c = λ h t valid lt. omega (arith, form_at-most h t valid lt)

pub returns-clause-bytes : goal.returns-clause-bytes
returns-clause-bytes c = λ h t valid lt. omega (arith, form_at-most h t valid lt, places_most h valid)
