use Rattle.std.proofs.Common.{[], ◌∷◌}
use Rattle.packet_decode.specs.State.{State}
use Rattle.ground_chain.specs.Report.{content_bytes}
use Rattle.ground_chain.proofs.TakenOut.{without}
use Rattle.ground_chain.proofs.refusals.refused_means_lost.Goals as goal

pub returns-clause-written : goal.returns-clause-written
returns-clause-written c = λ f before repeats after arrival all can. (without (λ (s : State). s ∷ []) f before repeats after arrival all can).0

pub returns-clause-bytes : goal.returns-clause-bytes
returns-clause-bytes c = λ f before repeats after arrival all can. (without (λ (s : State). content_bytes s) f before repeats after arrival all can).0

pub returns-clause-state : goal.returns-clause-state
returns-clause-state c = λ f before repeats after arrival all can. (without (λ (s : State). s ∷ []) f before repeats after arrival all can).1
