use Rattle.std.proofs.Common.{ℕ, ◌<◌, List, length, All, Option, ◌∙◌, zero-add, arith}
use Rattle.packet_store.specs.Walks.{walk, packets_bytes, ending_at}
use Rattle.packet_store.proofs.Walks.{IsWalk, IsWalk-walk_from}
use Rattle.packet_store.proofs.laws.walks_are_exact.Goals as goal

parts : (chosen : Option ℕ) (bytes : List ℕ) → All (λ b. b < 256) bytes → IsWalk chosen 0 0 bytes (walk chosen bytes)
parts chosen bytes all = IsWalk-walk_from (length bytes) chosen 0 0 bytes (omega arith) (omega arith) all

pub returns : goal.returns
returns c = record {
  good = λ chosen bytes all. (parts chosen bytes all).good;
  few = λ chosen bytes all. omega (arith, (parts chosen bytes all).few);
  joined = λ chosen bytes all. (parts chosen bytes all).joined;
  ends = λ chosen bytes all.
      let w = walk chosen bytes in
      (parts chosen bytes all).ends ∙ (λ i. ending_at chosen (zero-add (length w.packets) i) (zero-add (length (packets_bytes w.packets)) i) w.rest);
}
