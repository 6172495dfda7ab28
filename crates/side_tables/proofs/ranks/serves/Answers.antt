use Rattle.std.proofs.Common.{eqb-true, leb-true}
use Rattle.std.proofs.lemmas.Bool.{and_parts, ltb-true}
use Rattle.side_tables.proofs.ranks.serves.Goals as goal

pub returns : goal.returns
returns c = λ is.
    let both = and_parts _ _ is in
    let first = and_parts _ _ both.0 in
    record { steps = eqb-true _ _ first.0; enough = leb-true _ _ first.1; after = ltb-true _ _ both.1 }
