use Rattle.pocket_cmd.proofs.Headline.{IsValid-recorded, IsInputWhole-history, owed-chain, owed-played_store, owed-recorded, owed-restored, whole-restored}
use Rattle.pocket_cmd.proofs.laws.commands_compose.Goals as goal

pub returns-clause-compress : goal.returns-clause-compress
returns-clause-compress c = λ k plan recording right bytes whole. (IsValid-recorded k plan recording right bytes, owed-recorded k plan recording whole)

pub returns-clause-play : goal.returns-clause-play
returns-clause-play c = λ p script h right valid.
    let (_, (_, (_, (_, (chosen, _))))) = right in
    (IsInputWhole-history p h chosen.1 valid, owed-played_store p h script chosen.1 valid)

pub returns-clause-restore : goal.returns-clause-restore
returns-clause-restore c = λ r h copies right valid places short few.
    let (_, (_, (_, (_, (chosen, _))))) = right in
    (whole-restored r h copies chosen.1 valid few, owed-restored r h copies chosen.1 valid places short few)

pub returns-clause-chain : goal.returns-clause-chain
returns-clause-chain c = λ k p r plan script recording right playing restoring same_play same_restore same_bits bytes.
    let (_, (_, (_, (_, (chosen, _))))) = playing in
    owed-chain k p r plan script recording (IsValid-recorded k plan recording right bytes) chosen.1 same_play same_restore same_bits
