use Rattle.packet_decode.proofs.ExactPacket.{IsExact-data_at, IsExact-mask_at, content_exact}
use Rattle.packet_decode.proofs.SpelledWords.{IsExact-first, content_alone, deduced_mask_alone, deduced_part, deduced_whole, filled, sent_mask_alone, sent_part, sent_whole, data_opaque}
use Rattle.packet_decode.proofs.laws.parts_are_completed.Goals as goal

pub returns-clause-first : goal.returns-clause-first
returns-clause-first c = IsExact-first

pub returns-clause-mask : goal.returns-clause-mask
returns-clause-mask c = IsExact-mask_at

pub returns-clause-content : goal.returns-clause-content
returns-clause-content c = λ f change mask known recent len all. content_exact f change known recent all mask len

pub returns-clause-others : goal.returns-clause-others
returns-clause-others c = λ f change deduced known recent masks contents. IsExact-data_at f change known recent contents deduced masks

pub returns-clause-deduced_whole : goal.returns-clause-deduced_whole
returns-clause-deduced_whole c = deduced_whole

pub returns-clause-deduced_part : goal.returns-clause-deduced_part
returns-clause-deduced_part c = deduced_part

pub returns-clause-deduced_mask_alone : goal.returns-clause-deduced_mask_alone
returns-clause-deduced_mask_alone c = deduced_mask_alone

pub returns-clause-sent_whole : goal.returns-clause-sent_whole
returns-clause-sent_whole c = sent_whole

pub returns-clause-sent_part : goal.returns-clause-sent_part
returns-clause-sent_part c = sent_part

pub returns-clause-sent_mask_alone : goal.returns-clause-sent_mask_alone
returns-clause-sent_mask_alone c = sent_mask_alone

pub returns-clause-content_alone : goal.returns-clause-content_alone
returns-clause-content_alone c = content_alone

pub returns-clause-filled : goal.returns-clause-filled
returns-clause-filled c = filled

pub returns-clause-opaque : goal.returns-clause-opaque
returns-clause-opaque c = λ f change known. data_opaque f change known
