use Rattle.std.proofs.Common.{length, ap, arith}
use Rattle.std.proofs.lemmas.List.{length-append}
use Rattle.count_code.specs.Code.{count_bits}
use Rattle.packet_encode.proofs.Packets.{length-count_bits-most}
use Rattle.packet_encode.proofs.data.put_whole.Goals as goal

pub put_count-requires-clause-room : goal.put_count-requires-clause-room
put_count-requires-clause-room c =
    omega (arith, length-count_bits-most c.len.result (omega (arith, c.len.ensures.len, c.len.ensures.vector.0)) (omega (arith, c.len.ensures.len, c.len.ensures.vector.1)))

pub put_bits-requires : goal.put_bits-requires
put_bits-requires c =
    omega (
      arith,
      ap length c.put_count.ensures.bits,
      length-append c.args.pen.now.bits (count_bits c.len.result),
      length-count_bits-most c.len.result (omega (arith, c.len.ensures.len, c.len.ensures.vector.0)) (omega (arith, c.len.ensures.len, c.len.ensures.vector.1)),
    )
