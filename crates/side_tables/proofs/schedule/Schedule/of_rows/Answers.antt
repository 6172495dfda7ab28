use Rattle.std.proofs.Common.{◌≡◌, ◌+◌, false, [], ◌∷◌, ◌++◌, get_or, take}
use Rattle.std.proofs.lemmas.List.{take_all, take_more}
use Rattle.side_tables.specs.declared.rows.ScheduleRow.{ScheduleRow}
use Rattle.side_tables.specs.declared.rows.ScheduleRow.TheVariants as row
use Rattle.side_tables.proofs.RowKinds.{AreOfKinds-flags, AreOfKinds-robust, flags_right, robust_right}
use Rattle.side_tables.proofs.schedule.Schedule.of_rows.Goals as goal
use Rattle.side_tables.proofs.schedule.Schedule.of_rows.Goals.{in-Flags+in_ok-push-in-Flags, in-Robust+in_ok-push-in-Robust}

abbrev none : ScheduleRow
none = row.Flags (record { first = 0; last = 0; step = 0; flags = record { p = false; f = false; r = false } })

pub loop-row-preserved : goal.loop-row-preserved
loop-row-preserved c =
    let rows = c.args.rows.now in
    let i = c.loop-row.row-index in
    let more : take (i + 1) rows ≡ take i rows ++ get_or rows i none ∷ [] = take_more rows i none c.loop-row-test.true in
    elim c.match-row.branch [
      | in-Flags+in_ok-push-in-Flags w ↦
          rw (w.flags-is, w.robust-is, w.in_ok-push-in-Flags.ensures.items, more, w.in-Flags.is)
          (AreOfKinds-flags (take i rows) c.loop-row.flags.items c.loop-row.robust.items w.in-Flags.row c.loop-row.invariant)
      | in-Robust+in_ok-push-in-Robust w ↦
          rw (w.flags-is, w.robust-is, w.in_ok-push-in-Robust.ensures.items, more, w.in-Robust.is)
          (AreOfKinds-robust (take i rows) c.loop-row.flags.items c.loop-row.robust.items w.in-Robust.row c.loop-row.invariant)
    ]

pub of_rows-requires : goal.of_rows-requires
of_rows-requires c =
    let all : take c.loop-row.row-index c.args.rows.now ≡ c.args.rows.now = take_all c.loop-row.row-index c.args.rows.now c.loop-row-test.false in
    rw (c.loop-row.invariant.flags_are, all) (flags_right c.args.rows.now c.requires)

pub of_rows-requires-2 : goal.of_rows-requires-2
of_rows-requires-2 c =
    let all : take c.loop-row.row-index c.args.rows.now ≡ c.args.rows.now = take_all c.loop-row.row-index c.args.rows.now c.loop-row-test.false in
    rw (c.loop-row.invariant.robust_are, all) (robust_right c.args.rows.now c.requires)
