use Rattle.std.proofs.Common.{◌≡◌, [], sym, ap, ◌∙◌, arith}
use Rattle.std.specs.Prelude.{reverse}
use Rattle.std.proofs.lemmas.List.{append-nil}
use Rattle.bit_vectors.specs.Vectors.{number_bits}
use Rattle.run_code.specs.Extraction.{bits_up}
use Rattle.run_code.proofs.Gathering.{some_one, word_extract-none}
use Rattle.run_code.proofs.Upward.{bits_up_is}
use Rattle.run_code.proofs.words.put_gathered_up.Goals as goal

pub put_word-requires-clause-some : goal.put_word-requires-clause-some
put_word-requires-clause-some c = some_one c.args.at (omega arith) (omega (arith, c.ranges.at))

pub returns-else-at-ne0-clause-bits : goal.returns-else-at-ne0-clause-bits
returns-else-at-ne0-clause-bits c =
    let zero_is : c.args.at ≡ 0 = omega arith in
    let none : bits_up (number_bits 64 c.args.bits) (number_bits 64 c.args.at) ≡ [] = rw zero_is (sym (bits_up_is (number_bits 64 c.args.bits) (number_bits 64 0)) ∙ ap reverse (word_extract-none c.args.bits)) in
    rw none (sym (append-nil c.args.pen.now.bits))
