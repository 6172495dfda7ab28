use Rattle.std.proofs.Common.{rules, ◌≡◌, Option, Result, Ok, Some, sym, subst, ap, ◌∙◌}
use Rattle.std.specs.Result.{IfOk}
use Rattle.pocket_cmd.specs.declared.status.Status.{Status as Answer}
use Rattle.pocket_c.specs.Bench.{BenchState}
use Rattle.pocket_c.specs.Running.{HasRun}
use Rattle.pocket_c.specs.declared.held.Held.TheVariants as held
use Rattle.pocket_c.proofs.desk.run.Goals as goal
use Rattle.pocket_c.proofs.desk.run.Goals.{in-Bench, in-Sender-1, in-Receiver-1}

ran-from_bench : {S : Type 0} (b old new : BenchState) (answer : Answer) (after : Option held.the_data) (result : Result Answer S)
    → result ≡ Ok answer → after ≡ Some (held.Bench new) → old ≡ b → HasRun old new answer
    → IfOk result (λ a. (next : BenchState) × (after ≡ Some (held.Bench next)) × HasRun b next a)
ran-from_bench b old new answer after result is kept given ran =
    subst (λ r. IfOk r (λ a. (next : BenchState) × (after ≡ Some (held.Bench next)) × HasRun b next a)) (sym is)
    (new, kept, subst (λ o. HasRun o new answer) given ran)

same_bench : (old b : BenchState) (now value : held.the_data) (before : Option held.the_data)
    → now ≡ held.Bench old → now ≡ value → Some value ≡ before → before ≡ Some (held.Bench b) → old ≡ b
same_bench old b now value before is same took given = cc

pub returns-clause-ran : goal.returns-clause-ran
returns-clause-ran c = λ b is. elim c.match-deref_mut.branch [
  | in-Bench w ↦
      let kept = c.put.ensures ∙ ap (λ box. Some box.value) w.held-is in
      let given = same_bench w.in-Bench.bench b _ _ _ w.in-Bench.is c.deref_mut.ensures.value c.in-Some.ensures.took is in
      ran-from_bench b w.in-Bench.bench w.run.new.self w.run.result _ _ w.answer-is kept given w.run.ensures
  | in-Sender-1 w ↦ search rules
  | in-Receiver-1 w ↦ search rules
]
