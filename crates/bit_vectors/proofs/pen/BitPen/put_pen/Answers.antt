use Rattle.std.proofs.Common.{◌≡◌, ◌+◌, ◌-◌, ◌*◌, ◌/◌, ◌^◌, ◌++◌, length, take, drop, ap, ◌∙◌, append_assoc, subst, arith}
use Rattle.std.proofs.lemmas.List.{length-append, length-take, take_all, take_rest}
use Rattle.std.specs.Vec.{vec_capacity}
use Rattle.bit_vectors.specs.Reading.{Shows}
use Rattle.bit_vectors.specs.Vectors.{bits_of, number_bits}
use Rattle.bit_vectors.specs.Pen.{PenState, written_bits}
use Rattle.bit_vectors.proofs.PenBits.{length-written, low_below, next_word, words_taken}
use Rattle.bit_vectors.proofs.pen.BitPen.put_pen.Goals as goal
use Rattle.bit_vectors.proofs.pen.BitPen.put_pen.Goals.{At-loop-index}

module _ (c : At-loop-index) where
  are : written_bits c.other.inside.bytes.items c.other.inside.words c.other.inside.word c.other.inside.held ≡ c.args.other.now.bits
  are = ap (λ (p : PenState). p.bits) c.other.view_is

  len : length c.args.other.now.bits ≡ 64 * c.other.inside.words + c.other.inside.held
  len = rw (← are) (length-written c.other.inside.bytes.items (vec_capacity c.other.inside.bytes) c.other.inside.words c.other.inside.word c.other.inside.held c.other.inside.room c.other.invariant)

  so_far : length c.loop-index.self.bits ≡ length c.args.self.now.bits + length (take (64 * c.loop-index.index) c.args.other.now.bits)
  so_far = ap length c.loop-index.invariant.0 ∙ length-append c.args.self.now.bits (take (64 * c.loop-index.index) c.args.other.now.bits)

pub put_word-requires-clause-room : goal.put_word-requires-clause-room
put_word-requires-clause-room c =
    let d = (goal.at.put_word-requires-clause-room c).At-loop-index in
    omega (arith, so_far d, length-take (64 * c.loop-index.index) c.args.other.now.bits, len d, c.loop-index.invariant.1, c.requires, c.loop-index-test.true)

pub loop-index-preserved : goal.loop-index-preserved
loop-index-preserved c =
    let d = (goal.at.loop-index-preserved c).At-loop-index in
    let o = c.other.inside in
    let shows : Shows (bits_of (drop (8 * c.loop-index.index) c.other.inside.bytes.items)) c.front_word.result =
    rw (← c.deref.ensures.value) (rw (take_rest c.deref.result.now (8 * c.loop-index.index)) at c.front_word.ensures) in
    let next : take (64 * c.loop-index.index) c.args.other.now.bits ++ number_bits 64 c.front_word.result ≡ take (64 * (c.loop-index.index + 1)) c.args.other.now.bits =
    subst (λ v. take (64 * c.loop-index.index) v ++ number_bits 64 c.front_word.result ≡ take (64 * (c.loop-index.index + 1)) v) (are d)
    (next_word o.bytes.items (vec_capacity o.bytes) o.words o.word o.held o.room c.loop-index.index c.front_word.result c.other.invariant c.loop-index-test.true shows) in (
      c.put_word.ensures.bits
          ∙ ap (λ b. b ++ number_bits 64 c.front_word.result) c.loop-index.invariant.0
          ∙ append_assoc c.args.self.now.bits (take (64 * c.loop-index.index) c.args.other.now.bits) (number_bits 64 c.front_word.result)
          ∙ ap (λ b. c.args.self.now.bits ++ b) next,
      c.put_word.ensures.room ∙ c.loop-index.invariant.1,
    )

-- ---- the word that isn't full

pub put_word-requires-then-other-ne0-clause-fits : goal.put_word-requires-then-other-ne0-clause-fits
put_word-requires-then-other-ne0-clause-fits c = low_below c.other.inside.word c.other.inside.held (omega (arith, c.other.invariant.short)) c.other.invariant.small

pub put_word-requires-then-other-ne0-clause-room : goal.put_word-requires-then-other-ne0-clause-room
put_word-requires-then-other-ne0-clause-room c =
    let d = (goal.at.put_word-requires-then-other-ne0-clause-room c).At-loop-index in
    omega (arith, so_far d, length-take (64 * c.loop-index.index) c.args.other.now.bits, len d, c.loop-index.invariant.1, c.requires, c.loop-index.auto.index-end)

pub returns-then-other-ne0-clause-bits : goal.returns-then-other-ne0-clause-bits
returns-then-other-ne0-clause-bits c =
    let d = (goal.at.returns-then-other-ne0-clause-bits c).At-loop-index in
    let o = c.other.inside in
    let end : c.loop-index.index ≡ c.other.inside.words = omega (arith, c.loop-index-test.false, c.loop-index.auto.index-end) in
    let last = number_bits o.held (o.word / 2 ^ (64 - o.held)) in
    let all : take (64 * c.loop-index.index) c.args.other.now.bits ++ number_bits c.other.inside.held (c.other.inside.word / 2 ^ (64 - c.other.inside.held)) ≡ c.args.other.now.bits =
    rw end (subst (λ v. take (64 * c.other.inside.words) v ++ number_bits c.other.inside.held (c.other.inside.word / 2 ^ (64 - c.other.inside.held)) ≡ v) (are d)
    (ap (λ b. b ++ number_bits c.other.inside.held (c.other.inside.word / 2 ^ (64 - c.other.inside.held))) (words_taken o.bytes.items (vec_capacity o.bytes) o.words o.word o.held o.room o.words c.other.invariant (omega arith)))) in
    c.put_word-then-other-ne0.ensures.bits
    ∙ ap (λ b. b ++ last) c.loop-index.invariant.0
    ∙ append_assoc c.args.self.now.bits (take (64 * c.loop-index.index) c.args.other.now.bits) last
    ∙ ap (λ b. c.args.self.now.bits ++ b) all

pub returns-else-other-ne0-clause-bits : goal.returns-else-other-ne0-clause-bits
returns-else-other-ne0-clause-bits c =
    let d = (goal.at.returns-else-other-ne0-clause-bits c).At-loop-index in
    c.loop-index.invariant.0
    ∙ ap (λ b. c.args.self.now.bits ++ b) (take_all (64 * c.loop-index.index) c.args.other.now.bits (omega (arith, len d, c.loop-index-test.false, c.loop-index.auto.index-end, c.if-other-ne0.false)))
