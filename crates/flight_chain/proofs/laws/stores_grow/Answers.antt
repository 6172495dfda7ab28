use Rattle.flight_chain.proofs.CompressCourses.{store_of-push}
use Rattle.flight_chain.proofs.laws.stores_grow.Goals as goal

pub returns : goal.returns
returns c = store_of-push
