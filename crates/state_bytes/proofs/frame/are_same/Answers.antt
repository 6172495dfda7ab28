use Rattle.std.proofs.lemmas.Slice.Eq.{slice_eq-Decides}
use Rattle.std.proofs.lemmas.Bool.Decides.{Decides-eqb}
use Rattle.state_bytes.proofs.frame.are_same.Goals as goal

pub returns : goal.returns
returns c = slice_eq-Decides Decides-eqb c.args.first.now c.args.second.now _ c.eq.ensures
