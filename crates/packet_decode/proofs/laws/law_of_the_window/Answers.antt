use Rattle.packet_decode.proofs.WindowKnown.{content-kept, deduced_mask-is}
use Rattle.packet_decode.proofs.laws.law_of_the_window.Goals as goal

pub returns-clause-mask : goal.returns-clause-mask
returns-clause-mask c = λ h earlier t before lt near. deduced_mask-is h earlier t lt before near

pub returns-clause-content : goal.returns-clause-content
returns-clause-content c = λ h earlier t valid before lt near. content-kept h earlier t lt before near valid
