use Rattle.bit_vectors.specs.Reading.{bits_left}
use Rattle.count_code.proofs.reading.take_count.Goals as goal

pub take_count_with-requires-clause-ahead : goal.take_count_with-requires-clause-ahead
take_count_with-requires-clause-ahead c = c.none.ensures (bits_left c.args.eye.now)
