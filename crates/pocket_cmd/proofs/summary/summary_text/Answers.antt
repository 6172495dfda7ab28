use Rattle.std.proofs.Common.{◌≡◌, IfOk, subst}
use Rattle.pocket_cmd.specs.Summary.{summary_lines}
use Rattle.pocket_cmd.proofs.summary.summary_text.Goals as goal

pub returns : goal.returns
returns c =
    subst (λ summary. IfOk c.lines.result (λ text. text.items ≡ summary_lines summary)) c.in_ok-summary.ensures c.lines.ensures
