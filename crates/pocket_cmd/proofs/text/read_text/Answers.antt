use Rattle.pocket_cmd.proofs.TextsFirst.{IsTextUnread-lost, OnErr-by}
use Rattle.pocket_cmd.proofs.text.read_text.Goals as goal

pub returns-clause-cut_off : goal.returns-clause-cut_off
returns-clause-cut_off g c =
    OnErr-by c.fill_text.result (λ lost.
    IsTextUnread-lost _ c.args.inlet (g.D.Desk.meaning c.args.desk.now) (g.D.Desk.meaning c.open_in.new.self) (g.D.Desk.meaning c.fill_text.new.desk) _ lost.0 c.in_ok-open_in.ensures.opened lost.1 lost.2) c.fill_text.ensures.lost
