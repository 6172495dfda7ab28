use Rattle.std.proofs.Common.{ap, arith}
use Rattle.std.specs.Option.{option_map}
use Rattle.side_tables.specs.declared.rows.RobustRow.{RobustRow}
use Rattle.side_tables.specs.Rows.{robust_span}
use Rattle.side_tables.proofs.Claimed.{flags_of-none, last_row-none}
use Rattle.side_tables.proofs.schedule.Schedule.next_named.Goals as goal

pub returns-clause-nothing : goal.returns-clause-nothing
returns-clause-nothing c = rw (← c.self.view_is) (record {
  flags = λ n from below. flags_of-none c.self.inside.flags n (c.next_named-flags.ensures.none n from (omega (arith, below, c.min.ensures)));
  robust = λ n from below. ap (option_map (λ (row : RobustRow). row.value)) (last_row-none robust_span c.self.inside.robust n (c.next_named.ensures.none n from (omega (arith, below, c.min.ensures))));
})
