use Rattle.bit_vectors.proofs.PenBits.{HasWords-both}
use Rattle.bit_vectors.proofs.pen.write_two_words.Goals as goal

pub returns : goal.returns
returns c =
    HasWords-both c.args.bytes.now c.write_word.new.bytes c.write_word-2.new.bytes c.args.words c.args.first c.args.second c.write_word.ensures c.write_word-2.ensures
