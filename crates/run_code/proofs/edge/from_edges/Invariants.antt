use Rattle.std.proofs.Common.{◌≡◌, ◌*◌, length, get_or, eqb, false, ℕ, ◌+◌, ◌<◌, ◌≤◌}
use Rattle.bit_vectors.specs.Words.{word_count}
use Rattle.run_code.proofs.EdgeWords.{xor}
use Rattle.run_code.proofs.edge.from_edges.Given as goal

-- the words from here on are done
abbrev pub invariant-loop-index : goal.invariant-loop-index
invariant-loop-index l = record {
  same_length : length l.into ≡ length l.edges;
  within : l.index ≤ word_count (length l.edges);
  bit : l.next < 2;
  next : eqb l.next 1 ≡ get_or l.into (64 * l.index) false;
  done : (k : ℕ) → 64 * l.index ≤ k → get_or l.edges k false ≡ xor (get_or l.into k false) (get_or l.into (k + 1) false);
}
