use Rattle.std.proofs.Common.{◌≡◌, ℕ, refl, sym, ap, ◌∙◌}
use Rattle.pocket_cmd.specs.Status.{exit_number}
use Rattle.pocket_cmd.specs.declared.status.Refusal.TheVariants as refusal
use Rattle.pocket_cmd.specs.declared.status.Status.{Status}
use Rattle.pocket_cmd.specs.declared.status.Status.TheVariants.{Done, Refused}
use Rattle.pocket.proofs.answer.Goals as goal

-- the number of wrong words is theirs alone
from_two : (status : Status) → exit_number status ≡ 2 → (word : ℕ) × (status ≡ Refused (refusal.BadWords word))
from_two Done is = absurd cc
from_two (Refused (refusal.BadWords word)) is = (word, refl)
from_two (Refused refusal.SideTooLong) is = absurd cc
from_two (Refused (refusal.BadSide row)) is = absurd cc
from_two (Refused refusal.ScriptTooLong) is = absurd cc
from_two (Refused (refusal.BadScript row)) is = absurd cc
from_two (Refused refusal.ReadFault) is = absurd cc
from_two (Refused refusal.WriteFault) is = absurd cc
from_two (Refused (refusal.CutRecord t)) is = absurd cc
from_two (Refused (refusal.SpareBit t)) is = absurd cc
from_two (Refused (refusal.BadStore byte kind)) is = absurd cc
from_two (Refused refusal.TooMany) is = absurd cc
from_two (Refused refusal.NoMemory) is = absurd cc

pub returns-in-None-clause-no_command : goal.returns-in-None-clause-no_command
returns-in-None-clause-no_command c = λ word none is. c.ended.ensures ∙ ap exit_number ((c.run-status.ensures.no_command word).1 (rw c.first_words.ensures.first is))

pub returns-in-None-clause-wrong : goal.returns-in-None-clause-wrong
returns-in-None-clause-wrong c = λ none two.
    let (word, is) = from_two c.run-status.result (sym c.ended.ensures ∙ two) in
    (word, rw (sym c.first_words.ensures.first) ((c.run-status.ensures.no_command word).0 is))
