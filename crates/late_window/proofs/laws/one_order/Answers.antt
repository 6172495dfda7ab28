use Rattle.late_window.proofs.Sortings.{IsSorting-only, IsSorting-sorted}
use Rattle.late_window.proofs.laws.one_order.Goals as goal

pub returns : goal.returns
returns c = record { sorting = IsSorting-sorted; only = IsSorting-only }
