use Rattle.packet_calls.proofs.Received.{delivered}
use Rattle.packet_calls.proofs.laws.deliveries_are_received.Goals as goal

pub returns : goal.returns
returns c = delivered
