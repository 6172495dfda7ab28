use Rattle.std.proofs.Common.{◌≡◌, ◌+◌, ◌-◌, ◌<◌, ◌^◌, length, take, ap, sym, arith}
use Rattle.std.proofs.lemmas.List.{take-append-drop}
use Rattle.std.proofs.lemmas.Nat.{shr_below}
use Rattle.bit_vectors.specs.Vectors.{number_bits}
use Rattle.bit_vectors.specs.Reading.{bits_left}
use Rattle.bit_vectors.proofs.WordBytes.{shown_front}
use Rattle.bit_vectors.proofs.NumberBits.{parse_number-short, parse_number-enough}
use Rattle.bit_vectors.proofs.eye.BitEye.take_word.Goals as goal
use Rattle.bit_vectors.proofs.eye.BitEye.take_word.Goals.{After-high_bits-word}

pub returns-then-left-width-clause-reading : goal.returns-then-left-width-clause-reading
returns-then-left-width-clause-reading c =
    (parse_number-short c.args.width (bits_left c.args.self.now) (omega (arith, c.left-left.ensures.left)), c.size.ensures.size, omega (arith, c.left-left.ensures.rest, c.pass.ensures.place, ap length c.pass.ensures.bits))

shown : (c : After-high_bits-word) → number_bits c.args.width c.high_bits-word.result ≡ take c.args.width (bits_left c.args.self.now)
shown c = rw c.high_bits-word.ensures (shown_front (bits_left c.args.self.now) c.ahead.result c.args.width c.ahead.ensures c.requires (omega (arith, c.left-left.ensures.left)))

below : (c : After-high_bits-word) → c.high_bits-word.result < 2 ^ c.args.width
below c =
    let all : c.args.width + (64 - c.args.width) ≡ 64 = omega arith in
    rw c.high_bits-word.ensures (shr_below c.ahead.result c.args.width (64 - c.args.width) (rw all c.ahead.type_inv))

pub returns-clause-number : goal.returns-clause-number
returns-clause-number c =
    let d = (goal.at.returns-clause-number c).After-high_bits-word in
    rw (shown d, c.pass-2.ensures.left) (sym (take-append-drop c.args.width (bits_left c.args.self.now)))

pub returns-clause-fits : goal.returns-clause-fits
returns-clause-fits c = below (goal.at.returns-clause-fits c).After-high_bits-word

pub returns-clause-reading : goal.returns-clause-reading
returns-clause-reading c =
    let d = (goal.at.returns-clause-reading c).After-high_bits-word in
    rw c.pass-2.ensures.left (parse_number-enough c.args.width c.high_bits-word.result (bits_left c.args.self.now) (below d) (omega (arith, c.left-left.ensures.left)) (shown d))
