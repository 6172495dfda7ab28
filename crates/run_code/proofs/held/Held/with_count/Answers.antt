use Rattle.std.proofs.Common.{◌≡◌, ◌+◌, ◌*◌, ◌%◌, ◌^◌, ◌<◌, ◌≤◌, ◌++◌, ℕ, Bool, List, ap, ◌∙◌, arith}
use Rattle.std.proofs.lemmas.Nat.{shl_whole, pow-add}
use Rattle.std.proofs.Math.Nat.{pow-le-pow_right}
use Rattle.bit_vectors.specs.Vectors.{number_bits}
use Rattle.bit_vectors.proofs.NumberBits.{number_bits-cat}
use Rattle.count_code.proofs.CountWords.{count_bits-one, zero_in_one}
use Rattle.run_code.proofs.Gathering.{fits_word}
use Rattle.run_code.proofs.held.Held.with_count.Goals as goal

joined : (held count word more : ℕ) → held < 2 ^ count → word < 2 ^ more → held * 2 ^ more + word < 2 ^ (count + more)
joined held count word more small below = omega (arith, fits_word held count more small, below)

pub overflow_add-result-2 : goal.overflow_add-result-2
overflow_add-result-2 c =
    let word = c.count_word-word.result in
    let whole = shl_whole c.args.self.value c.args.self.width c.count_word-word.result.width 64 c.requires.fits (omega (arith, c.requires.room, c.count_word-word.ensures.most)) in
    let below = joined c.args.self.value c.args.self.width c.count_word-word.result.value c.count_word-word.result.width c.requires.fits c.count_word-word.ensures.fits in
    omega (arith, whole, c.from.ensures, below, pow-le-pow_right {n = 2} (omega arith) {i = c.args.self.width + c.count_word-word.result.width} {j = 64} (omega (arith, c.requires.room, c.count_word-word.ensures.most)))

pub returns-clause-bits : goal.returns-clause-bits
returns-clause-bits c =
    let whole = shl_whole c.args.self.value c.args.self.width c.count_word-word.result.width 64 c.requires.fits (omega (arith, c.requires.room, c.count_word-word.ensures.most)) in
    rw (whole, c.from.ensures)
    (number_bits-cat c.args.self.width c.count_word-word.result.width c.args.self.value c.count_word-word.result.value c.count_word-word.ensures.fits
    ∙ ap (λ (bits : List Bool). number_bits c.args.self.width c.args.self.value ++ bits) c.count_word-word.ensures.bits)

pub returns-clause-fits : goal.returns-clause-fits
returns-clause-fits c =
    let whole = shl_whole c.args.self.value c.args.self.width c.count_word-word.result.width 64 c.requires.fits (omega (arith, c.requires.room, c.count_word-word.ensures.most)) in
    rw (whole, c.from.ensures) (joined c.args.self.value c.args.self.width c.count_word-word.result.value c.count_word-word.result.width c.requires.fits c.count_word-word.ensures.fits)

-- ---- a count of 1

twice : (held count : ℕ) → held < 2 ^ count → count ≤ 33 → held * 2 % 2 ^ 64 ≡ held * 2
twice held count small room = shl_whole held count 1 64 small (omega (arith, room))

pub returns-then-a-eq1-clause-bits : goal.returns-then-a-eq1-clause-bits
returns-then-a-eq1-clause-bits c =
    let more : c.args.self.value * 2 ≡ c.args.self.value * 2 + 0 = omega arith in
    rw (twice c.args.self.value c.args.self.width c.requires.fits c.requires.room, c.if-a-eq1.true, count_bits-one)
    (ap (number_bits (c.args.self.width + 1)) more ∙ number_bits-cat c.args.self.width 1 c.args.self.value 0 (omega arith) ∙ ap (λ (bits : List Bool). number_bits c.args.self.width c.args.self.value ++ bits) zero_in_one)

pub returns-then-a-eq1-clause-fits : goal.returns-then-a-eq1-clause-fits
returns-then-a-eq1-clause-fits c =
    rw (twice c.args.self.value c.args.self.width c.requires.fits c.requires.room, pow-add 2 c.args.self.width 1) (omega (arith, c.requires.fits))
