use Rattle.side_tables.specs.Texts.{records_of}
use Rattle.side_tables.proofs.StreamRows.{rows_of-streams}
use Rattle.side_tables.proofs.laws.streams_of_texts.Goals as goal

pub returns : goal.returns
returns c = λ text. rows_of-streams (records_of text)
