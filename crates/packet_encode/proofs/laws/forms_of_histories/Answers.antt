use Rattle.packet_encode.proofs.Packets.{form_at-fits, form_at-is_form}
use Rattle.packet_encode.proofs.laws.forms_of_histories.Goals as goal

pub returns-clause-is_form : goal.returns-clause-is_form
returns-clause-is_form c = form_at-is_form

pub returns-clause-fits : goal.returns-clause-fits
returns-clause-fits c = λ h t valid lt. form_at-fits h t
