use Rattle.std.proofs.Common.{ap}
use Rattle.bit_vectors.specs.declared.flags.Flags.{Flags}
use Rattle.mask_update.specs.Histories.{input_at}
use Rattle.mask_update.specs.Masks.{mask_at}
use Rattle.packet_encode.specs.Forms.{sent_content, form_at, sent_of, wide}
use Rattle.packet_encode.proofs.laws.forced_packets.Goals as goal

pub returns-clause-mask : goal.returns-clause-mask
returns-clause-mask c = λ h t valid lt forced. ap (λ (f : Flags). sent_of f.f (mask_at h t)) (valid.forced t lt forced)

pub returns-clause-content : goal.returns-clause-content
returns-clause-content c = λ h t valid lt forced.
    ap (λ (f : Flags). sent_content f.r (input_at h t) (wide (form_at h t) (mask_at h t))) (valid.forced t lt forced)
