use Rattle.std.proofs.Common.{bit_or, ◌*◌, ◌%◌, ap, ◌∙◌}
use Rattle.bit_vectors.proofs.NumberBits.{bool_byte_is}
use Rattle.robust_window.specs.Window.{marks_of}
use Rattle.robust_window.proofs.Marking.{marks-pushed}
use Rattle.robust_window.proofs.marks.pushed.Goals as goal

pub returns : goal.returns
returns c = ap (λ b. marks_of (bit_or (c.args.marks * 2 % 65536) b)) (c.from.ensures ∙ bool_byte_is c.args.mark) ∙ marks-pushed c.args.marks c.args.mark
