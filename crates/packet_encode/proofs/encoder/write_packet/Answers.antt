use Rattle.std.proofs.Common.{◌++◌, cond, refl, ap, ◌∙◌}
use Rattle.bit_vectors.specs.Vectors.{or_bits}
use Rattle.packet_encode.specs.Forms.{Form, change_bits, data_bits, form_bits, form_of, sent_content, sent_of}
use Rattle.packet_encode.proofs.Packets.{written_is}
use Rattle.packet_encode.proofs.encoder.write_packet.Goals as goal

pub returns-clause-bits : goal.returns-clause-bits
returns-clause-bits c =
    let window = c.args.window.now in
    let mask = c.mask-mask.result.now in
    let form : Form = form_of mask window.recent window.level window.twice c.args.input.now c.args.flags in
    let changes = c.put_changes-wide in
    written_is c.put_data.new.pen.bits changes.new.pen.bits mask window.recent window.level window.twice c.args.input.now c.args.flags changes.result
    (changes.ensures.bits form refl refl refl ∙ ap (λ bits. bits ++ change_bits form) c.requires.empty)
    changes.ensures.wide
    (c.put_data.ensures.bits
    ∙ ap (λ v. changes.new.pen.bits ++ data_bits (sent_of c.args.flags.f mask) (sent_content c.args.flags.r c.args.input.now (cond changes.result (or_bits mask v) mask))) c.recent.ensures.kept)
    ∙ ap (λ v. form_bits (form_of v window.recent window.level window.twice c.args.input.now c.args.flags)) c.mask-mask.ensures.kept
