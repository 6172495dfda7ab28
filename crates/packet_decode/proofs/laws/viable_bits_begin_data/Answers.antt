use Rattle.packet_decode.proofs.ViableData.{viable_data, data_viable}
use Rattle.packet_decode.proofs.laws.viable_bits_begin_data.Goals as goal

pub returns-clause-data : goal.returns-clause-data
returns-clause-data c = λ f t state bits some most has few viable. viable_data f state t has bits some most few viable

pub returns-clause-viable : goal.returns-clause-viable
returns-clause-viable c = λ f t state bits has begun. data_viable f state t has bits begun
