use Rattle.std.proofs.Common.{refl}
use Rattle.bit_vectors.proofs.WordBytes.{spare_by_test}
use Rattle.bit_vectors.proofs.word_bytes.has_spare_bit.Goals as goal

pub returns : goal.returns
returns c = spare_by_test c.args.bytes.now c.args.places _ c.requires.some c.requires.len refl
