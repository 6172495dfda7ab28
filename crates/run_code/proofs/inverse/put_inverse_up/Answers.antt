use Rattle.std.proofs.Common.{◌*◌, ◌++◌, List, Bool, length, bit_and, w64, refl, ◌+◌, sym, ap, ◌∙◌, arith, append_assoc}
use Rattle.std.specs.Prelude.{reverse}
use Rattle.std.specs.Int.{bit_not}
use Rattle.std.proofs.lemmas.List.{append-nil, length-append, length-reverse}
use Rattle.bit_vectors.specs.Vectors.{without_bits}
use Rattle.run_code.specs.Extraction.{bits_at}
use Rattle.run_code.proofs.Ones.{ones_below}
use Rattle.run_code.proofs.InverseBits.{inverse_is, length-bits_at}
use Rattle.run_code.proofs.Upward.{no_ones_below, without_word, ones_below-most, ones_step_up, upward_step, upward_all}
use Rattle.run_code.proofs.inverse.put_inverse_up.Goals as goal

pub loop-index-init : goal.loop-index-init
loop-index-init c = record { room = refl; bits = rw (no_ones_below c.args.x.now) (sym (append-nil c.args.pen.now.bits)) }

pub put_gathered_up-requires : goal.put_gathered_up-requires
put_gathered_up-requires c =
    let done = ones_below (64 * c.loop-index.index) c.args.x.now in
    let bits = bits_at (without_bits c.args.x.now c.args.mask.now) done in
    omega (
      arith,
      c.requires.room,
      c.loop-index.invariant.room,
      ap (λ (b : List Bool). length b) c.loop-index.invariant.bits,
      length-append c.args.pen.now.bits (reverse bits),
      length-reverse bits,
      length-bits_at (without_bits c.args.x.now c.args.mask.now) done,
      ones_step_up c.args.x.now c.loop-index.index c.word-at.result c.word-at.type_inv c.word-at.ensures,
      ones_below-most c.args.x.now (64 * (c.loop-index.index + 1)),
    )

pub loop-index-preserved : goal.loop-index-preserved
loop-index-preserved c =
    let i = c.loop-index.invariant in
    let a = without_bits c.args.x.now c.args.mask.now in
    let word = without_word c.args.x.now c.args.mask.now c.loop-index.index c.word-at.result c.word.result c.requires.places c.word.type_inv c.word-at.ensures c.word.ensures in
    let step = upward_step a c.args.x.now c.loop-index.index (bit_and c.word-at.result (bit_not w64 c.word.result)) c.word-at.result word c.word-at.ensures in
    record {
      room = c.put_gathered_up.ensures.room ∙ i.room;
      bits = c.put_gathered_up.ensures.bits ∙ rw (i.bits, step) (append_assoc c.args.pen.now.bits _ _);
    }

pub returns-clause-bits : goal.returns-clause-bits
returns-clause-bits c =
    let a = without_bits c.args.x.now c.args.mask.now in
    c.loop-index.invariant.bits ∙ ap (λ (bits : List Bool). c.args.pen.now.bits ++ bits) (upward_all a c.args.x.now c.loop-index.index (omega (arith, c.word_count-index-end.ensures.count)) ∙ inverse_is c.args.mask.now c.args.x.now c.requires.places)
