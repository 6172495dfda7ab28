use Rattle.std.proofs.Common.{◌++◌, length, [], ◌∷◌, true, ap, sym, ◌∙◌, arith}
use Rattle.std.proofs.lemmas.List.{length-append, length_push}
use Rattle.bit_vectors.specs.Vectors.{without_bits}
use Rattle.run_code.specs.Extraction.{inverse_up}
use Rattle.run_code.proofs.InverseBits.{inverse_is}
use Rattle.packet_encode.specs.Forms.{direction_bits, wide_by}
use Rattle.packet_encode.proofs.Packets.{length-inverse_up, ones_most, appended, directions-none, directions-some, has_one-some, none_left}
use Rattle.packet_encode.proofs.changes.put_directions.Goals as goal

pub returns-then-is_within-clause-bits : goal.returns-then-is_within-clause-bits
returns-then-is_within-clause-bits c = λ level above.
    c.put.ensures.bits
    ∙ ap (λ d. c.args.pen.now.bits ++ direction_bits c.args.recent.now d)
    (sym (directions-none c.args.mask.now c.args.recent.now level c.args.twice
    (none_left c.args.recent.now c.args.mask.now (c.is_within.ensures.within.0 c.if-is_within.true))))

pub returns-then-is_within-clause-wide : goal.returns-then-is_within-clause-wide
returns-then-is_within-clause-wide c = λ level above.
    ap (λ d. wide_by d c.args.recent.now c.args.mask.now)
    (directions-none c.args.mask.now c.args.recent.now level c.args.twice
    (none_left c.args.recent.now c.args.mask.now (c.is_within.ensures.within.0 c.if-is_within.true)))

pub put-requires-3 : goal.put-requires-3
put-requires-3 c =
    omega (
      arith,
      ap length c.put_inverse_up.ensures.bits,
      length-append c.put-2.new.self.bits (inverse_up c.args.mask.now c.args.recent.now),
      length-inverse_up c.args.mask.now c.args.recent.now,
      ones_most c.args.recent.now,
      ap length c.put-2.ensures.bits,
      length_push c.args.pen.now.bits true,
    )

pub returns-clause-bits : goal.returns-clause-bits
returns-clause-bits c = λ level above.
    let some = has_one-some (without_bits c.args.recent.now c.args.mask.now) c.if-is_within.ensures.some in
    c.put-3.ensures.bits
    ∙ ap (λ bits. bits ++ c.args.twice ∷ []) (c.put_inverse_up.ensures.bits ∙ ap (λ bits. bits ++ inverse_up c.args.mask.now c.args.recent.now) c.put-2.ensures.bits)
    ∙ appended c.args.pen.now.bits true (inverse_up c.args.mask.now c.args.recent.now) c.args.twice
    ∙ ap (λ word. c.args.pen.now.bits ++ (true ∷ (word ++ c.args.twice ∷ []))) (sym (inverse_is c.args.mask.now c.args.recent.now (sym c.requires.places)))
    ∙ ap (λ d. c.args.pen.now.bits ++ direction_bits c.args.recent.now d) (sym (directions-some c.args.mask.now c.args.recent.now level c.args.twice above some))

pub returns-clause-wide : goal.returns-clause-wide
returns-clause-wide c = λ level above.
    let some = has_one-some (without_bits c.args.recent.now c.args.mask.now) c.if-is_within.ensures.some in
    ap (λ d. wide_by d c.args.recent.now c.args.mask.now) (directions-some c.args.mask.now c.args.recent.now level c.args.twice above some)

pub returns-clause-most : goal.returns-clause-most
returns-clause-most c =
    omega (
      arith,
      ap length c.put-3.ensures.bits,
      length_push c.put_inverse_up.new.pen.bits c.args.twice,
      ap length c.put_inverse_up.ensures.bits,
      length-append c.put-2.new.self.bits (inverse_up c.args.mask.now c.args.recent.now),
      length-inverse_up c.args.mask.now c.args.recent.now,
      ones_most c.args.recent.now,
      ap length c.put-2.ensures.bits,
      length_push c.args.pen.now.bits true,
    )
