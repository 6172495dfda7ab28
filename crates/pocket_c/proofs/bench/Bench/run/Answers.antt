use Rattle.std.proofs.Common.{rules, ◌≡◌, ℕ, List, [], map, ap, sym, ◌∙◌, subst}
use Rattle.std.specs.String.{string_bytes}
use Rattle.desk_ports.specs.MemState.{MemState}
use Rattle.pocket_c.specs.Bench.{BenchState}
use Rattle.pocket_c.specs.CommandDesk.{CommandState, command_meanings}
use Rattle.pocket_c.specs.Running.{HasRun}
use Rattle.pocket_c.specs.contracts.bench.Bench.{the_view}
use Rattle.pocket_cmd.specs.Openings.{GrantsNames}
use Rattle.pocket_c.proofs.CommandDesks.{GrantsNames-given}
use Rattle.pocket_c.proofs.Runs.{Ran, has_run}
use Rattle.pocket_c.proofs.bench.Bench.run.Goals as goal

pub pocket-status-requires-clause-granted : goal.pocket-status-requires-clause-granted
pocket-status-requires-clause-granted c =
    subst (λ words. GrantsNames words (command_meanings c.over-command.result)) (ap (λ (command : CommandState). command.words) c.over-command.ensures) (GrantsNames-given c.over-command.result)

pub returns : goal.returns
returns c =
    let ran = c.pocket-status.ensures in
    let words : List (List ℕ) = map string_bytes c.deref-words.result.now in
    let given : BenchState = record { desk = c.replace-desk.result; words = words } in
    let kept : given ≡ record { desk = c.self.inside.desk; words = words } = ap (λ (desk : MemState). record given { desk = desk }) c.replace-desk.ensures.value in
    let told : record { desk = c.self.inside.desk; words = words } ≡ c.args.self.now = ap (λ (words : List (List ℕ)). record given { desk = c.self.inside.desk; words = words }) (ap (map string_bytes) c.deref-words.ensures.value) ∙ c.self.view_is in
    let over : Ran words c.over-command.result c.pocket-status.new.desk c.pocket-status.result = record {
      bad_words = ran.bad_words;
      not_called = ran.not_called;
      stands = ran.stands;
      refused = ran.refused;
      leaves = ran.leaves;
      kept = ran.kept;
      side_text = ran.side_text;
      read_no_further = ran.read_no_further;
      bad_side = ran.bad_side;
      bad_script = ran.bad_script;
      ends = ran.ends;
      complete = ran.complete;
      headline = ran.headline;
      cause = ran.cause;
    } in
    let end : MemState = c.into_desk.result in
    let after : BenchState = the_view (record { alloc = c.self.inside.alloc; desk = end; words = c.clear.new.self }) in
    let emptied : after.words ≡ [] = search rules in
    let has : HasRun given (record { desk = end; words = [] }) c.pocket-status.result = has_run c.replace-desk.result end words c.pocket-status.new.desk c.pocket-status.result c.into_desk.ensures.desk
    (subst (λ (start : CommandState). Ran words start c.pocket-status.new.desk c.pocket-status.result) c.over-command.ensures over) in
    subst (λ (old : BenchState). HasRun old after c.pocket-status.result) (kept ∙ told)
    (subst (λ (words : List (List ℕ)). HasRun given (record { desk = end; words = words }) c.pocket-status.result) (sym emptied) has)
