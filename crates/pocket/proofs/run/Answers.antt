use Rattle.std.proofs.Common.{◌≡◌, ℕ, None, Result, Ok, Err, refl, sym, ◌∙◌}
use Rattle.pocket_cmd.specs.declared.status.Refusal.TheVariants as refusal
use Rattle.pocket_cmd.specs.declared.status.Status.{Status}
use Rattle.pocket_cmd.specs.declared.status.Status.TheVariants.{Done, Refused}
use Rattle.pocket.specs.Program.{answered}
use Rattle.pocket.proofs.run.Goals as goal

-- an answer that is done, or for wrong words, is that of `pocket`
from_done : {T E : Type 0} (status : Status) (handed : Result T E) → answered status handed ≡ Done → status ≡ Done
from_done Done handed is = refl
from_done (Refused why) handed is = absurd cc

from_words : {T E : Type 0} (status : Status) (handed : Result T E) (word : ℕ) → answered status handed ≡ Refused (refusal.BadWords word) → status ≡ Refused (refusal.BadWords word)
from_words Done (Ok done) word is = absurd cc
from_words Done (Err failed) word is = absurd cc
from_words (Refused why) handed word is = is

to_words : {T E : Type 0} (status : Status) (handed : Result T E) (word : ℕ) → status ≡ Refused (refusal.BadWords word) → answered status handed ≡ Refused (refusal.BadWords word)
to_words Done handed word is = absurd cc
to_words (Refused why) handed word is = is

pub returns-clause-no_command : goal.returns-clause-no_command
returns-clause-no_command c = λ word. (
  (λ is. (c.pocket-status.ensures.bad_words word).0 (from_words c.pocket-status.result c.hand_over-handed.result word (sym c.answered.ensures ∙ is))),
  (λ is. c.answered.ensures ∙ to_words c.pocket-status.result c.hand_over-handed.result word ((c.pocket-status.ensures.bad_words word).1 is)),
)

pub returns-clause-done : goal.returns-clause-done
returns-clause-done c = λ is.
    let told = c.pocket-status.ensures.stands None (from_done c.pocket-status.result c.hand_over-handed.result (sym c.answered.ensures ∙ is)) in (told.0, told.1, tt)
