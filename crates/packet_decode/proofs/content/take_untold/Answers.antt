use Rattle.std.proofs.Common.{Some, None}
use Rattle.packet_encode.specs.Forms.{wide_by}
use Rattle.packet_decode.specs.PacketReading.{Spelled, parse_part_with}
use Rattle.packet_decode.proofs.KeptContent.{front_tells}
use Rattle.packet_decode.proofs.content.take_untold.Goals as goal

pub returns-clause-taken : goal.returns-clause-taken
unfolding parse_part_with
returns-clause-taken c =
    record { moves = c.take_extracted.ensures.moves; reading = front_tells (Spelled (Some c.args.mask.now) None) (wide_by c.args.change.now.directions c.args.change.now.recent c.args.mask.now) c.args.draft.now.content c.take_extracted.new.draft.content c.args.eye.now c.take_extracted.new.eye c.take_extracted.result c.take_extracted.ensures.reading }
