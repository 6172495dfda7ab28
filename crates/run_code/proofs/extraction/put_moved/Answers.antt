use Rattle.std.proofs.Common.{◌≡◌, ◌+◌, ◌∙◌, ◌++◌, length, List, Bool, sym, ap, arith, append_assoc}
use Rattle.std.specs.Int.RustNames.{count_ones}
use Rattle.bit_vectors.specs.Vectors.{number_bits}
use Rattle.bit_vectors.proofs.NumberBits.{number_bits-bits_number}
use Rattle.run_code.specs.Extraction.{places_before, bits_at}
use Rattle.run_code.proofs.Gathering.{word_extract, length-word_extract, word_number_below, before_step, before_ones}
use Rattle.run_code.proofs.extraction.put_moved.Goals as goal
use Rattle.run_code.proofs.extraction.put_moved.Goals.{After-word-at}

ones : (c : After-word-at) → length (places_before (c.args.index + 1) c.args.b.now) ≡ count_ones c.word-at.result + length (places_before c.args.index c.args.b.now)
ones c = before_ones c.args.b.now c.args.b.now c.args.index c.word-at.result c.word-at.result c.word-at.type_inv c.word-at.ensures c.word-at.ensures

pub moved-word-requires-clause-some : goal.moved-word-requires-clause-some
moved-word-requires-clause-some c = omega (arith, c.requires.some, ones (goal.at.moved-word-requires-clause-some c).After-word-at)

pub put_word-requires-clause-some : goal.put_word-requires-clause-some
put_word-requires-clause-some c = omega (arith, c.requires.some, ones (goal.at.put_word-requires-clause-some c).After-word-at)

pub put_word-requires-clause-fits : goal.put_word-requires-clause-fits
put_word-requires-clause-fits c = rw c.moved-word.ensures.number (word_number_below c.word.result c.word-at.result c.word-at.type_inv)

pub put_word-requires-clause-room : goal.put_word-requires-clause-room
put_word-requires-clause-room c = omega (arith, c.requires.room, ones (goal.at.put_word-requires-clause-room c).After-word-at)

pub returns-clause-bits : goal.returns-clause-bits
returns-clause-bits c =
    let rest = bits_at c.args.a.now (places_before c.args.index c.args.b.now) in
    let word : number_bits (count_ones c.word-at.result) c.moved-word.result ≡ word_extract c.word.result c.word-at.result =
    ap (number_bits (count_ones c.word-at.result)) c.moved-word.ensures.number
    ∙ rw (length-word_extract c.word.result c.word-at.result c.word-at.type_inv) at (number_bits-bits_number (word_extract c.word.result c.word-at.result)) in
    ap (λ (xs : List Bool). xs ++ rest) (c.put_word.ensures.bits ∙ ap (λ (xs : List Bool). c.args.pen.now.bits ++ xs) word)
    ∙ append_assoc c.args.pen.now.bits (word_extract c.word.result c.word-at.result) rest
    ∙ ap (λ (xs : List Bool). c.args.pen.now.bits ++ xs) (sym (before_step c.args.a.now c.args.b.now c.args.index c.word.result c.word-at.result c.word-at.type_inv c.word.ensures c.word-at.ensures))
