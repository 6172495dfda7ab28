use Rattle.std.proofs.Common.{refl}
use Rattle.std.specs.Fmt.{digits}
use Rattle.csv.specs.Records.{field_at}
use Rattle.csv.proofs.OnLiterals.{csv_on_literals}
use Rattle.bit_vectors.specs.Vectors.{bits_number, number_bits}
use Rattle.flight_chain.specs.Recordings.{recording_walk_by, recording_walk_from}
use Rattle.param_table.proofs.laws.worked_tables.Goals as goal

pub returns-clause-columns : goal.returns-clause-columns
unfolding csv_on_literals field_at
returns-clause-columns c = refl

pub returns-clause-packets : goal.returns-clause-packets
unfolding number_bits recording_walk_by recording_walk_from
returns-clause-packets c = refl

pub returns-clause-table : goal.returns-clause-table
unfolding digits bits_number
returns-clause-table c = refl

pub returns-clause-report : goal.returns-clause-report
unfolding digits bits_number
returns-clause-report c = refl

pub returns-clause-within : goal.returns-clause-within
unfolding csv_on_literals field_at
returns-clause-within c = refl
