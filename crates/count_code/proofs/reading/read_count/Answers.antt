use Rattle.std.proofs.Common.{refl}
use Rattle.bit_vectors.specs.Reading.{bits_left}
use Rattle.bit_vectors.proofs.ExactReading.{IsExact-next}
use Rattle.count_code.specs.Counts.{IsCodeOf, parse_count, word_of}
use Rattle.count_code.proofs.ExactCounts.{IsExact-count_at}
use Rattle.count_code.proofs.reading.read_count.Goals as goal

pub returns-clause-reading : goal.returns-clause-reading
returns-clause-reading c =
    rw c.pass.ensures.left
    (IsExact-next (IsCodeOf c.args.limit) (parse_count c.args.limit) (IsExact-count_at c.args.limit) c.in-Some.seen.count (word_of c.in-Some.seen.count) (bits_left c.args.eye.now) c.in-Some.seen.width (c.in-Some.ensures.within, refl) (c.in-Some.ensures.word (bits_left c.args.eye.now) c.or_looked-looked.ensures))
