use Rattle.late_window.proofs.Orders.{given-is, held-is, late-is-count}
use Rattle.late_window.proofs.laws.sorters_put_in_order.Goals as goal

pub returns : goal.returns
returns c = record { given = given-is; held = held-is; late = late-is-count }
