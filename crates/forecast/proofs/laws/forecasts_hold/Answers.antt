use Rattle.std.proofs.Common.{suc, length, arith}
use Rattle.packet_encode.proofs.Deliveries.{arrived-heard}
use Rattle.forecast.proofs.Foresight.{at_least, mask_known, sure, written_sure}
use Rattle.forecast.proofs.laws.forecasts_hold.Goals as goal

pub returns-clause-written : goal.returns-clause-written
returns-clause-written c = written_sure

pub returns-clause-mask : goal.returns-clause-mask
returns-clause-mask c = λ p h t foreseen below is. mask_known p h foreseen (at_least h) (suc t) t (omega arith) below is

pub returns-clause-heard : goal.returns-clause-heard
returns-clause-heard c = λ p h t foreseen below is. arrived-heard p.copies (length h.steps) t below is.arrives

pub returns-clause-sure : goal.returns-clause-sure
returns-clause-sure c = λ p h t foreseen below exact is. sure p h foreseen (at_least h) exact (suc t) t (omega arith) below is
