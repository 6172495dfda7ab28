use Rattle.flight_chain.proofs.CompressCourses.{compression_of-none, HasTakenNothing-opened}
use Rattle.flight_chain.proofs.flight.Flight.open.Goals as goal

pub invariant_of-result : goal.invariant_of-result
invariant_of-result c = HasTakenNothing-opened _ c.in_ok-compressing.compressing c.requires.2 c.in_ok-compressing.ensures.right c.in_ok-compressing.ensures.ahead c.in_ok-compressing.ensures.none

pub returns : goal.returns
returns c = compression_of-none _ c.in_ok-compressing.compressing c.requires.2 c.in_ok-compressing.ensures.none
