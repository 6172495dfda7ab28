use Rattle.std.proofs.Common.{get_or}
use Rattle.ground_chain.specs.Run.{nothing_known, run}
use Rattle.ground_chain.proofs.EveryRun.{contents_of, content_size}
use Rattle.ground_chain.proofs.laws.contents_have_the_places.Goals as goal

pub returns-clause-places : goal.returns-clause-places
returns-clause-places c = λ f arrivals. contents_of f nothing_known (record { mask = tt; content = tt }) arrivals

pub returns-clause-bytes : goal.returns-clause-bytes
returns-clause-bytes c = λ f arrivals k d within is. content_size f (get_or (run f arrivals) k d) is (contents_of f nothing_known (record { mask = tt; content = tt }) arrivals k d within is)
