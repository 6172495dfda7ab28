use Rattle.run_code.proofs.EdgeWords.{get_or-edges, a_mask, one_mask}
use Rattle.run_code.proofs.laws.masks_and_edges.Goals as goal

pub returns-clause-neighbour : goal.returns-clause-neighbour
returns-clause-neighbour c = get_or-edges

pub returns-clause-some : goal.returns-clause-some
returns-clause-some c = a_mask

pub returns-clause-one : goal.returns-clause-one
returns-clause-one c = one_mask
