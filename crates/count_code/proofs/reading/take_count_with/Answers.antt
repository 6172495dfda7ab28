use Rattle.std.proofs.Common.{refl}
use Rattle.bit_vectors.proofs.ExactReading.{only_by, fault_by}
use Rattle.count_code.specs.Counts.{IsCodeOf, parse_count}
use Rattle.count_code.proofs.ExactCounts.{IsExact-count_at, counted}
use Rattle.count_code.proofs.reading.take_count_with.Goals as goal

pub returns-clause-word : goal.returns-clause-word
returns-clause-word c = counted c.args.limit c.args.eye.now c.read_count.new.eye c.read_count.result c.read_count.ensures.reading

pub returns-clause-only : goal.returns-clause-only
returns-clause-only c =
    λ count rest within parts. only_by (IsCodeOf c.args.limit) (parse_count c.args.limit) (IsExact-count_at c.args.limit) c.args.eye.now c.read_count.new.eye c.read_count.result c.read_count.ensures.reading count _ rest (within, refl) parts

pub returns-clause-fault : goal.returns-clause-fault
returns-clause-fault c =
    fault_by (IsCodeOf c.args.limit) (parse_count c.args.limit) (IsExact-count_at c.args.limit) (λ count. count) c.args.eye.now c.read_count.new.eye c.read_count.result c.read_count.ensures.moves c.read_count.ensures.reading
