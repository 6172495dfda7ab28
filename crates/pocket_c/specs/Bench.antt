-- A desk in memory, and the words of the next command.
use Rattle.std.specs.Prelude.{ℕ, List, refl}
use Rattle.std.specs.Coded.{Coded, code_by, coded×, coded_list}
use Rattle.desk_ports.specs.MemState.{MemState, bytes_code, state_code}

pub record BenchState : Type 0 where
  pub desk : MemState
  pub words : List (List ℕ)

abbrev pub bench_code : Coded BenchState
bench_code = code_by (MemState × List (List ℕ)) (coded× state_code (coded_list bytes_code)) (λ b. (b.desk, b.words)) (λ p. record { desk = p.0; words = p.1 }) (λ _. refl)
