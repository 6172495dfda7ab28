use Rattle.std.proofs.Common.{◌≡◌, ◌-◌, take, refl, sym, ap, ◌∙◌, arith}
use Rattle.bit_vectors.specs.Vectors.{number_bits}
use Rattle.bit_vectors.specs.Reading.{bits_left, parse_word}
use Rattle.bit_vectors.proofs.ExactReading.{IsExact-next, IsExact-same_at}
use Rattle.bit_vectors.proofs.WordBytes.{shown_front}
use Rattle.bit_vectors.proofs.eye.BitEye.match_ahead.Goals as goal

pub returns-then-high_bits-value-clause-reading : goal.returns-then-high_bits-value-clause-reading
returns-then-high_bits-value-clause-reading c =
    let shown : number_bits c.args.width c.high_bits.result ≡ take c.args.width (bits_left c.args.self.now) =
    rw c.high_bits.ensures (shown_front (bits_left c.args.self.now) c.ahead.result c.args.width c.ahead.ensures c.requires (omega (arith, c.left.ensures.left))) in
    rw c.pass.ensures.left (IsExact-next _ (parse_word (number_bits c.args.width c.args.value)) (IsExact-same_at (number_bits c.args.width c.args.value)) tt (number_bits c.args.width c.args.value) (bits_left c.args.self.now) c.args.width refl (sym shown ∙ ap (number_bits c.args.width) c.if-high_bits-value.true))
