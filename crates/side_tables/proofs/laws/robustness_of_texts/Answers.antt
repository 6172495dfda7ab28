use Rattle.side_tables.specs.Texts.{records_of}
use Rattle.side_tables.proofs.RowKinds.{robust_of-most}
use Rattle.side_tables.proofs.laws.robustness_of_texts.Goals as goal

pub returns : goal.returns
returns c = λ text t. robust_of-most (records_of text) t
