use Rattle.std.proofs.Common.{append_assoc}
use Rattle.param_table.proofs.Words.{same-wide}
use Rattle.param_table.proofs.texts.put_violation.Goals as goal

pub returns : goal.returns
returns c =
    let value = same-wide c.args.value c.requires.value in
    let low = same-wide c.args.limit.now.low c.requires.limit.low in
    let high = same-wide c.args.limit.now.high c.requires.limit.high in
    rw (c.put_number.ensures.text, c.from.ensures, c.put_byte-5.ensures, c.put_bytes.ensures, c.as_bytes.ensures.bytes, c.put_byte-4.ensures, c.put_signed-3.ensures.text, c.put_byte-3.ensures, c.put_signed-2.ensures.text, c.put_byte-2.ensures, c.put_signed.ensures.text, c.put_byte.ensures, c.clear.ensures, value, low, high)
    (simp append_assoc)
