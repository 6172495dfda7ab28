-- What is kept of arrivals that may come late, and what is still to be written of them and of all later ones.
use Rattle.std.specs.Prelude.{◌≡◌, ℕ, ◌+◌, ◌*◌, ◌≤◌, List, [], ◌++◌, length, drop, map, None}
use Rattle.desk_ports.specs.Courses.{Outputs, to_report}
use Rattle.packet_store.specs.SpacePackets.{period}
use Rattle.ground_chain.specs.Run.{expected, Arrival, Judged, known_from}
use Rattle.ground_chain.specs.Report.{added, end_row, restored_of, all_parts}
use Rattle.ground_chain.specs.Reception.{known_of, Reckoning, next_run, nothing_judged}
use Rattle.ground_chain.specs.Restoring.{restored_texts}
use Rattle.late_window.specs.declared.done.LateDone.{LateDone}
use Rattle.late_window.specs.declared.late.LateArrivals.{LateArrivals}
use Rattle.late_window.specs.Order.{Numbered, highest_with, near_number, numbered_from, arrival_of, late_row}
use Rattle.late_window.specs.Lines.{empty_line, given_from, gives, late_from, line_after, next_line, passed_over}

-- nothing has arrived
abbrev pub nothing_late : ℕ → ℕ → LateArrivals
nothing_late f window = record { numbers = None; sorter = record { line = empty_line window; out = [] }; judging = nothing_judged f; late = 0 }

-- the numbers are within their limits, if at most so many packets arrived
pub record IsWithinLimits (s : LateArrivals) (taken : ℕ) : Type 0 where
  pub held : length s.sorter.line.held ≤ s.sorter.line.window
  pub packets : s.judging.restored.packets + length s.sorter.line.held ≤ taken
  pub late : s.late ≤ taken
  pub near : expected s.numbers ≤ period * taken

-- ---- what is given up

-- the run over these arrivals, which are judged next
abbrev pub run_of : Reckoning → List Numbered → List Judged
run_of r given = next_run r (map arrival_of given)

-- what is written of it
abbrev pub held_bytes : Reckoning → List Numbered → Outputs
held_bytes r given = all_parts restored_texts (run_of r given)

-- these arrivals were judged: it keeps what the run knows after them, and counts them
pub record AreJudged (old new : Reckoning) (given : List Numbered) : Type 0 where
  pub places : new.reception.decoder.places ≡ old.reception.decoder.places
  pub known : known_of new.reception ≡ known_from old.reception.decoder.places (known_of old.reception) (map arrival_of given)
  pub restored : new.restored ≡ added old.restored (restored_of (run_of old given))

-- ---- the next arrival

abbrev pub numbered_at : LateArrivals → Arrival → Numbered
numbered_at s a = record { number = near_number s.numbers a.count; body = a.body }

-- what is given up when it comes, and what is written of that
abbrev pub given_up_for : LateArrivals → Arrival → List Numbered
given_up_for s a = gives s.sorter.line (numbered_at s a)

abbrev pub arrival_bytes : LateArrivals → Arrival → Outputs
arrival_bytes s a = held_bytes s.judging (given_up_for s a)

-- it was held, or counted as too late, and what was given up for it was judged
pub record Sorts (old new : LateArrivals) (a : Arrival) : Type 0 where
  pub numbers : new.numbers ≡ highest_with old.numbers (near_number old.numbers a.count)
  pub near : expected new.numbers ≤ expected old.numbers + period
  pub line : new.sorter.line ≡ next_line old.sorter.line (numbered_at old a)
  pub judged : AreJudged old.judging new.judging (given_up_for old a)
  pub late : new.late ≡ old.late + passed_over old.sorter.line (numbered_at old a)

-- ---- all later arrivals

-- what is given up of them and of those that are held, before the end
abbrev pub given_left : LateArrivals → List Arrival → List Numbered
given_left s arrivals = given_from s.sorter.line (numbered_from s.numbers arrivals)

-- what is held at the end
abbrev pub held_left : LateArrivals → List Arrival → List Numbered
held_left s arrivals = (line_after s.sorter.line (numbered_from s.numbers arrivals)).held

abbrev pub run_left : LateArrivals → List Arrival → List Judged
run_left s arrivals = run_of s.judging (given_left s arrivals ++ held_left s arrivals)

-- the numbers of all arrivals
abbrev pub done_of : LateArrivals → List Arrival → LateDone
done_of s arrivals = record {
  restored = added s.judging.restored (restored_of (run_left s arrivals));
  late = s.late + late_from s.sorter.line (numbered_from s.numbers arrivals);
}

-- what is written before the end, and at the end: what is held then, and the last two rows
abbrev pub bytes_left : LateArrivals → List Arrival → Outputs
bytes_left s arrivals = held_bytes s.judging (given_left s arrivals)

abbrev pub last_rows : LateDone → List ℕ
last_rows done = end_row done.restored ++ late_row done.late

abbrev pub last_bytes : LateArrivals → List Arrival → Outputs
last_bytes s arrivals = all_parts restored_texts (drop (length (given_left s arrivals)) (run_left s arrivals)) ++ to_report (last_rows (done_of s arrivals))
