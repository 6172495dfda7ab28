use Rattle.std.proofs.Common.{◌≡◌, ℕ, suc, length, vec_len}
use Rattle.bit_vectors.specs.Vectors.{byte_count}
use Rattle.flight_chain.specs.Recordings.{recording_of}
use Rattle.trial_chain.specs.Draws.{generator_at}
use Rattle.trial_chain.specs.Trials.{IsTrialScript, trial_input, trial_inputs}
use Rattle.trial_chain.proofs.generated.generate.Given as goal

abbrev pub invariant-packets : goal.invariant-packets
invariant-packets l = record {
  latest : ℕ;
  next : l.t ≡ suc latest;
  number : l.generator.number ≡ generator_at l.fn.trial.seed latest;
  input : l.generator.input ≡ trial_input l.fn.trial.seed l.fn.trial.f latest;
  places : length l.generator.input ≡ l.fn.trial.f;
  line : vec_len l.line ≡ byte_count l.fn.trial.f;
  recording : l.recording.items ≡ recording_of (trial_inputs l.fn.trial.seed l.t l.fn.trial.f);
  script : IsTrialScript l.fn.trial.seed l.t l.script.items;
}
