use Rattle.std.proofs.Common.{◌≡◌, ◌≤◌, vec_capacity, vec_len}
use Rattle.late_window.proofs.place.lengthen.Given as goal

-- it is as long as the loop has come, and its memory is the same
abbrev pub invariant-loop-missing : goal.invariant-loop-missing
invariant-loop-missing l = record {
  length : vec_len l.room ≡ l._missing;
  most : vec_len l.room ≤ vec_capacity l.room;
  taken : vec_capacity l.room ≡ vec_capacity l.fn.room;
}
