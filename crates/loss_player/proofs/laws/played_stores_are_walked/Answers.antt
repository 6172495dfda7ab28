use Rattle.std.proofs.Common.{List, ◌<◌, ℕ, All, length, Some, arith}
use Rattle.packet_store.specs.Walks.{IsGood, walk}
use Rattle.packet_store.proofs.Walks.{IsWalk-walk_from}
use Rattle.loss_player.specs.Played.{played_packets}
use Rattle.loss_player.proofs.PlayCourses.{good_played, walk_from-many, walk_from-packets}
use Rattle.loss_player.proofs.laws.played_stores_are_walked.Goals as goal

are_good : (copies : ℕ → ℕ) (apid : ℕ) (store : List ℕ) → All (λ b. b < 256) store → All (IsGood (Some apid)) (played_packets copies apid store)
are_good copies apid store all =
    good_played (Some apid) copies 0 (walk (Some apid) store).packets
    (IsWalk-walk_from (length store) (Some apid) 0 0 store (omega arith) (omega arith) all).good

pub returns-clause-whole : goal.returns-clause-whole
returns-clause-whole c = λ copies apid store all few.
    walk_from-packets (Some apid) 0 0 (played_packets copies apid store) (are_good copies apid store all) (omega (arith, few))

pub returns-clause-too_many : goal.returns-clause-too_many
returns-clause-too_many c = λ copies apid store all many.
    walk_from-many (Some apid) 0 0 (played_packets copies apid store) (are_good copies apid store all) (omega arith) (omega (arith, many))
