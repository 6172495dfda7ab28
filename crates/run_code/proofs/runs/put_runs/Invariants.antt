use Rattle.std.proofs.Common.{◌≡◌, ◌+◌, ◌*◌, ◌^◌, ◌<◌, ◌≤◌, ◌++◌, length}
use Rattle.bit_vectors.specs.Vectors.{number_bits}
use Rattle.run_code.specs.Runs.{runs_from, run_bits}
use Rattle.run_code.proofs.RunWords.{AreFalling}
use Rattle.run_code.proofs.runs.put_runs.Given as goal

-- the bits so far, those that are held, and the words of the ones that are left are all bits
abbrev pub invariant-loop-place : goal.invariant-loop-place
invariant-loop-place l = record {
  within : l.below ≤ length l.v;
  falling : AreFalling l.below l.place-iterator;
  room : l.pen.room ≡ l.initial.pen.room;
  most : l.held.width ≤ 62;
  small : l.held.value < 2 ^ l.held.width;
  fits : length l.pen.bits + l.held.width + (4 * l.below + 2) ≤ l.pen.room;
  bits : l.pen.bits ++ (number_bits l.held.width l.held.value ++ runs_from l.below l.place-iterator) ≡ l.initial.pen.bits ++ run_bits l.v;
}
