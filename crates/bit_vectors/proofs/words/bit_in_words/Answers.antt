use Rattle.std.proofs.Common.{◌-◌, ◌/◌, ◌%◌, get_or, refl}
use Rattle.std.proofs.lemmas.Nat.Bits.{shr_and_one}
use Rattle.bit_vectors.specs.Words.{bit_of}
use Rattle.bit_vectors.proofs.words.bit_in_words.Goals as goal

pub returns : goal.returns
unfolding bit_of
returns c = rw (shr_and_one (get_or c.args.words.now (c.args.place / 64) 0) (63 - c.args.place % 64)) refl
