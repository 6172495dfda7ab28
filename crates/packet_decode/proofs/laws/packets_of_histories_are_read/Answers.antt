use Rattle.packet_decode.proofs.OfHistories.{answer-mask_alone, answer-neither, answer-written, told-spelled, true_state-is, untold-opaque}
use Rattle.packet_decode.proofs.laws.packets_of_histories_are_read.Goals as goal

pub returns-clause-state : goal.returns-clause-state
returns-clause-state c = true_state-is

pub returns-clause-spelled : goal.returns-clause-spelled
returns-clause-spelled c = λ h mask content t valid masks contents lt. told-spelled h t valid lt mask content masks contents

pub returns-clause-opaque : goal.returns-clause-opaque
returns-clause-opaque c = λ h mask content t valid lt. untold-opaque h t valid lt mask content

pub returns-clause-written : goal.returns-clause-written
returns-clause-written c = λ h mask content t valid masks contents lt. answer-written h t valid lt mask content masks contents

pub returns-clause-mask_alone : goal.returns-clause-mask_alone
returns-clause-mask_alone c = λ h mask content t valid masks contents lt. answer-mask_alone h t valid lt mask content masks contents

pub returns-clause-neither : goal.returns-clause-neither
returns-clause-neither c = λ h mask content t valid masks contents lt. answer-neither h t valid lt mask content masks contents
