use Rattle.std.proofs.Common.{None}
use Rattle.packet_store.specs.Walks.{walk}
use Rattle.ground_chain.proofs.RestCourses.{texts-before}
use Rattle.multi_ground.specs.MultiOutputs.{multi_header, tagged_rows, written_packet}
use Rattle.multi_ground.specs.MultiRun.{multi_run}
use Rattle.multi_ground.proofs.StreamsApart.{owed-store, owed-stream, owed-whole}
use Rattle.multi_ground.proofs.laws.whole_stores_owe_each_stream.Goals as goal

pub returns : goal.returns
returns c = record {
  before = λ streams store. texts-before tagged_rows written_packet multi_header (multi_run streams (walk None store).packets);
  texts = owed-whole;
  whole = λ streams store are bytes whole. owed-store streams are store bytes whole;
  each = λ streams store index are bytes whole within. owed-stream streams are store bytes whole index within;
}
