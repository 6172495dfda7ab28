use Rattle.std.proofs.Common.{refl}
use Rattle.bit_vectors.specs.Vectors.{number_bits}
use Rattle.flight_chain.specs.Recordings.{recording_walk_by, recording_walk_from}
use Rattle.flight_chain.proofs.laws.worked_recordings.Goals as goal

pub returns-clause-whole : goal.returns-clause-whole
unfolding number_bits recording_walk_by recording_walk_from
returns-clause-whole c = refl

pub returns-clause-empty : goal.returns-clause-empty
unfolding number_bits recording_walk_by recording_walk_from
returns-clause-empty c = refl

pub returns-clause-cut : goal.returns-clause-cut
unfolding number_bits recording_walk_by recording_walk_from
returns-clause-cut c = refl

pub returns-clause-spare : goal.returns-clause-spare
unfolding number_bits recording_walk_by recording_walk_from
returns-clause-spare c = refl
