use Rattle.std.proofs.Common.{◌≡◌, ℕ, ◌+◌, ◌-◌, ◌*◌, ◌/◌, ◌%◌, ◌^◌, ◌<◌, eqb, false, get_or, ℤ, unsigned_abs, sym, ap, subst, ◌∙◌, arith}
use Rattle.std.specs.Int.{bit_at}
use Rattle.std.proofs.lemmas.Nat.{or_lt, shr_le}
use Rattle.param_table.specs.Cells.{cell_in, first_bit, number_in}
use Rattle.param_table.proofs.Words.{shows-one, shows-two, number_in-word, first-word, less-signed, not_less, signed_if-less, signed_if-not, signed_if-first, signed_if-second, not_one, cell_in-small}
use Rattle.param_table.proofs.cells.cell.Goals as goal
use Rattle.param_table.proofs.cells.cell.Goals.{then-skipped-width-le64, else-skipped-width-le64, else-signed-via-then-signed+else-word-eq1, else-signed-via-else-signed, Joined-skipped-width-le64}

-- the word has the bits of the vector from the place on
shows : (c : Joined-skipped-width-le64) → (k : ℕ) → k < c.args.width → eqb (bit_at c.if-skipped-width-le64.word (63 - k)) 1 ≡ get_or c.args.packet.now (c.args.place + k) false
shows c = elim c.if-skipped-width-le64.branch [
  | then-skipped-width-le64 w ↦ λ k below. rw w.word-is (shows-one c.args.packet.now c.args.place c.args.width c.word.result c.word.ensures w.if-skipped-width-le64.true k below)
  | else-skipped-width-le64 w ↦ λ k below. rw w.word-is (shows-two c.args.packet.now c.args.place c.word.result w.word-else-skipped-width-le64.result c.word.ensures w.word-else-skipped-width-le64.ensures w.word-else-skipped-width-le64.type_inv k (omega (arith, c.requires.most)))
]

whole : (c : Joined-skipped-width-le64) → c.if-skipped-width-le64.word < 2 ^ 64
whole c = elim c.if-skipped-width-le64.branch [
  | then-skipped-width-le64 w ↦ rw w.word-is (omega arith)
  | else-skipped-width-le64 w ↦
      let next = w.word-else-skipped-width-le64.result in
      let fits = w.word-else-skipped-width-le64.type_inv in
      let high : c.word.result * 2 ^ (c.args.place % 64) % 2 ^ 64 < 2 ^ 64 = omega arith in
      let low : w.word-else-skipped-width-le64.result / 2 ^ (64 - c.args.place % 64) < 2 ^ 64 = omega (arith, shr_le next (64 - c.args.place % 64), fits) in
      rw w.word-is (or_lt 64 (c.word.result * 2 ^ (c.args.place % 64) % 2 ^ 64) (next / 2 ^ (64 - c.args.place % 64)) high low)
]

number : (c : Joined-skipped-width-le64) → c.if-skipped-width-le64.word / 2 ^ (64 - c.args.width) ≡ number_in c.args.packet.now c.args.place c.args.width
number c = number_in-word c.args.packet.now c.args.place c.args.width c.if-skipped-width-le64.word c.requires.some c.requires.most c.requires.within (whole c) (shows c)

first : (c : Joined-skipped-width-le64) → first_bit c.args.packet.now c.args.place ≡ eqb (c.if-skipped-width-le64.word / 2 ^ 63) 1
first c = first-word c.args.packet.now c.args.place c.args.width c.if-skipped-width-le64.word c.requires.some (whole c) (shows c)

fits : (c : Joined-skipped-width-le64) → c.if-skipped-width-le64.word / 2 ^ (64 - c.args.width) < 2 ^ 64
fits c = omega (arith, shr_le c.if-skipped-width-le64.word (64 - c.args.width), (whole c))

pub returns-then-word-eq1-clause-value : goal.returns-then-word-eq1-clause-value
returns-then-word-eq1-clause-value c =
    let d = (goal.at.returns-then-word-eq1-clause-value c).Joined-skipped-width-le64 in
    less-signed c.args.width _ c.from.result c.from-then-word-eq1.result c.requires.some c.requires.most (fits d) c.from.ensures c.from-then-word-eq1.ensures
    ∙ signed_if-less c.args.signed (first_bit c.args.packet.now c.args.place) c.args.width _ _ c.if-signed.true (first d ∙ ap (λ (n : ℕ). eqb n 1) c.if-word-eq1.true) (number d)

pub returns-else-signed-clause-value : goal.returns-else-signed-clause-value
returns-else-signed-clause-value c =
    let d = (goal.at.returns-else-signed-clause-value c).Joined-skipped-width-le64 in
    not_less _ c.from-else-signed.result (fits d) c.from-else-signed.ensures
    ∙ elim c.else-signed.branch [
      | else-signed-via-then-signed+else-word-eq1 w ↦ signed_if-not c.args.signed (first_bit c.args.packet.now c.args.place) c.args.width _ _ (signed_if-second c.args.signed _ (first d ∙ not_one _ w.if-word-eq1.false)) (number d)
      | else-signed-via-else-signed w ↦ signed_if-not c.args.signed (first_bit c.args.packet.now c.args.place) c.args.width _ _ (signed_if-first c.args.signed _ w.if-signed.false) (number d)
    ]

small : (c : Joined-skipped-width-le64) (z : ℤ) → z ≡ cell_in c.args.packet.now c.args.place c.args.width c.args.signed → unsigned_abs z < 2 ^ 64
small c z is = subst (λ (w : ℤ). unsigned_abs w < 2 ^ 64) (sym is) (cell_in-small c.args.packet.now c.args.place c.args.width c.args.signed c.requires.some c.requires.most c.requires.within)

pub returns-then-word-eq1-clause-small : goal.returns-then-word-eq1-clause-small
returns-then-word-eq1-clause-small c = small (goal.at.returns-then-word-eq1-clause-small c).Joined-skipped-width-le64 _ (returns-then-word-eq1-clause-value c)

pub returns-else-signed-clause-small : goal.returns-else-signed-clause-small
returns-else-signed-clause-small c = small (goal.at.returns-else-signed-clause-small c).Joined-skipped-width-le64 _ (returns-else-signed-clause-value c)
