use Rattle.std.proofs.Common.{◌≡◌, length, take, ap, ◌∙◌, arith}
use Rattle.std.proofs.lemmas.List.{append-nil, drop_all}
use Rattle.bit_vectors.specs.Reading.{bits_left}
use Rattle.bit_vectors.proofs.FrontReading.{parse_front-enough, parse_front-short}
use Rattle.bit_vectors.proofs.eye.BitEye.take_bits.Goals as goal

pub returns-then-left-len-clause-reading : goal.returns-then-left-len-clause-reading
returns-then-left-len-clause-reading c = (
  parse_front-short (length c.args.into.now) (bits_left c.args.self.now) (omega (arith, c.left-left.ensures.left, c.len.ensures.len)),
  c.size.ensures.size,
  omega (arith, c.left-left.ensures.rest, c.take_front.ensures.place, ap length c.take_front.ensures.same),
)

pub returns-clause-reading : goal.returns-clause-reading
returns-clause-reading c =
    let all : c.take_front-2.new.into ≡ take (length c.args.into.now) (bits_left c.args.self.now) =
    c.take_front-2.ensures.bits ∙ rw (c.len-2.ensures.len, drop_all (length c.args.into.now) c.args.into.now (omega arith)) (append-nil (take (length c.args.into.now) (bits_left c.args.self.now))) in
    rw (all, c.take_front-2.ensures.left, c.len-2.ensures.len) (parse_front-enough (length c.args.into.now) (bits_left c.args.self.now) (omega (arith, c.left-left.ensures.left, c.len.ensures.len)))
