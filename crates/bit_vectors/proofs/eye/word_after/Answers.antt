use Rattle.std.proofs.Common.{◌≡◌, get_or, ◌∙◌, arith}
use Rattle.bit_vectors.proofs.WordBytes.{after_fits, Shows-after}
use Rattle.bit_vectors.proofs.eye.word_after.Goals as goal
use Rattle.bit_vectors.proofs.eye.word_after.Goals.{After-from}

next_is : (c : After-from) → c.from.result ≡ get_or c.args.bytes.now 8 0
next_is c = c.from.ensures ∙ c.unwrap_or-next.ensures ∙ rw c.copied.ensures (c.get.ensures.lookup.4 (omega arith) 0)

pub overflow_add-result : goal.overflow_add-result
overflow_add-result c = omega (arith, after_fits c.front_word.result c.from.result c.args.skipped c.requires (omega arith))

pub returns : goal.returns
returns c = Shows-after c.args.bytes.now c.front_word.result c.from.result c.args.skipped c.requires (omega arith) (next_is (goal.at.returns c).After-from) c.front_word.ensures
