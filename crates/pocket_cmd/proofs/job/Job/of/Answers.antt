use Rattle.std.proofs.Common.{◌≡◌, ℕ, false, List, is_some, map, Option, None, Ok, refl, sym, ap, ◌∙◌, subst}
use Rattle.std.specs.String.{string_bytes}
use Rattle.desk_ports.specs.Meanings.{Meanings}
use Rattle.side_tables.specs.Grammar.{bad_copy_row, bad_schedule_row, copy_rows_of, schedule_rows_of}
use Rattle.forecast.specs.Outlooks.{ForecastState}
use Rattle.pocket_cmd.specs.declared.verbs.Port.{Port}
use Rattle.pocket_cmd.specs.declared.verbs.Port.TheVariants as port
use Rattle.pocket_cmd.specs.declared.verbs.Verb.{Verb}
use Rattle.pocket_cmd.specs.declared.verbs.Verb.TheVariants as verb
use Rattle.pocket_cmd.specs.declared.words.Command.{Command as Held}
use Rattle.pocket_cmd.specs.declared.job.Job.{Job}
use Rattle.pocket_cmd.specs.declared.job.Job.TheVariants as job
use Rattle.pocket_cmd.specs.Verbs.{verb_rows}
use Rattle.pocket_cmd.specs.Words.{Words, fault_of, packets, robust}
use Rattle.pocket_cmd.specs.Command.{IsRight, Names, name_at, names_of, view_command}
use Rattle.pocket_cmd.specs.Courses.{bad_row_of, bad_script_row_of, course_of}
use Rattle.pocket_cmd.specs.Jobs.{AfterMaking, IsJobOf, IsScriptRead, job_course, reads_input, writes_report}
use Rattle.pocket_cmd.specs.Outcome.{OnceAllRead}
use Rattle.pocket_cmd.proofs.Given.{AreSound-by, IsRight-sound, is_side, is_some-name_of, key_at, keys_of}
use Rattle.pocket_cmd.proofs.job.Job.of.Goals as goal

module _ (command : Held) (v : Verb) (is : command.verb ≡ v) where
  abbrev words : Words
  words = map string_bytes command.words.now

  sound : fault_of (verb_rows v) words ≡ None
  sound = subst (λ v. fault_of (verb_rows v) words ≡ None) is command.right

  -- a command's numbers are right
  right : IsRight (v, words)
  right = IsRight-sound v words sound

  -- what holds of its verb's job holds of its own
  made : (text : List ℕ) (old new : Meanings) (job : Job) → AfterMaking (v, words) text old new (Ok job) → AfterMaking (view_command command) text old new (Ok job)
  made text old new job e = subst (λ v. AfterMaking (v, words) text old new (Ok job)) (sym is) e

  -- a name is given for what the job reads and writes
  named : (at : Port) → is_side at ≡ false → is_some (key_at (verb_rows v) at) ≡ is_some (name_at (v, words) at)
  named at other = sym (is_some-name_of (verb_rows v) words (AreSound-by (verb_rows v) words sound) (keys_of v) at other)

  -- a job that reads no text before its run
  streamed : (text : List ℕ) (m : Meanings) (job : Job) → bad_script_row_of (v, words) ≡ None → bad_row_of (v, words) text ≡ None → job_course job ≡ course_of (v, words) text
      → reads_input job ≡ is_some (key_at (verb_rows v) port.Input) → writes_report job ≡ is_some (key_at (verb_rows v) port.Report) → AfterMaking (view_command command) text m m (Ok job)
  streamed text m job no_text rows owes reads reports = made text m m job (
    rows,
    subst (λ script. OnceAllRead script (names_of (v, words)) (course_of (v, words) text) m (λ names course start. IsJobOf job names course start m)) (sym no_text)
        (record { owes = owes; named = (reads ∙ named port.Input refl, reports ∙ named port.Report refl); is = refl }),
  )

pub flight-requires : goal.flight-requires
flight-requires g c = right c.args.command.now _ c.in-Compress.is

pub returns-in_ok-flight-in-Compress-clause-after : goal.returns-in_ok-flight-in-Compress-clause-after
returns-in_ok-flight-in-Compress-clause-after g c =
    streamed c.args.command.now verb.Compress c.in-Compress.is c.args.text.now.bytes.items _ (job.Compress c.in_ok-flight-in-Compress.field-0) refl c.in_ok-flight-in-Compress.ensures.rows (ap (λ flight. job_course (job.Compress flight)) c.in_ok-flight-in-Compress.ensures.flight) refl refl

pub player-requires : goal.player-requires
player-requires g c = right c.args.command.now _ c.in-Play.is

pub returns-in_ok-player-in-Play-clause-after : goal.returns-in_ok-player-in-Play-clause-after
returns-in_ok-player-in-Play-clause-after g c =
    streamed c.args.command.now verb.Play c.in-Play.is c.args.text.now.bytes.items _ (job.Play c.in_ok-player-in-Play.field-0) refl c.in_ok-player-in-Play.ensures.rows (ap (λ player. job_course (job.Play player)) c.in_ok-player-in-Play.ensures.player) refl refl

pub restorer-requires : goal.restorer-requires
restorer-requires g c = right c.args.command.now _ c.in-Restore.is

pub returns-in_ok-restorer-in-Restore-clause-after : goal.returns-in_ok-restorer-in-Restore-clause-after
returns-in_ok-restorer-in-Restore-clause-after g c =
    streamed c.args.command.now verb.Restore c.in-Restore.is c.args.text.now.bytes.items _ (job.Restore c.in_ok-restorer-in-Restore.field-0) refl refl (ap (λ restorer. job_course (job.Restore restorer)) c.in_ok-restorer-in-Restore.ensures) refl refl

pub lister-requires : goal.lister-requires
lister-requires g c = right c.args.command.now _ c.in-Show.is

pub returns-in_ok-lister-in-Show-clause-after : goal.returns-in_ok-lister-in-Show-clause-after
returns-in_ok-lister-in-Show-clause-after g c =
    streamed c.args.command.now verb.Show c.in-Show.is c.args.text.now.bytes.items _ (job.Show c.in_ok-lister-in-Show.field-0) refl refl (ap (λ lister. job_course (job.Show lister)) c.in_ok-lister-in-Show.ensures) refl refl

pub summary_text-requires : goal.summary_text-requires
summary_text-requires g c = right c.args.command.now _ c.in-Trial.is

pub returns-in_ok-multi_restorer-in-Multi-clause-after : goal.returns-in_ok-multi_restorer-in-Multi-clause-after
returns-in_ok-multi_restorer-in-Multi-clause-after g c =
    streamed c.args.command.now verb.Multi c.in-Multi.is c.args.text.now.bytes.items _ (job.Multi c.in_ok-multi_restorer-in-Multi.field-0) refl c.in_ok-multi_restorer-in-Multi.ensures.rows (ap (λ restorer. job_course (job.Multi restorer)) c.in_ok-multi_restorer-in-Multi.ensures.restorer) refl refl

pub late_restorer-requires : goal.late_restorer-requires
late_restorer-requires g c = right c.args.command.now _ c.in-Late.is

pub returns-in_ok-late_restorer-in-Late-clause-after : goal.returns-in_ok-late_restorer-in-Late-clause-after
returns-in_ok-late_restorer-in-Late-clause-after g c =
    streamed c.args.command.now verb.Late c.in-Late.is c.args.text.now.bytes.items _ (job.Late c.in_ok-late_restorer-in-Late.field-0) refl refl (ap (λ restorer. job_course (job.Late restorer)) c.in_ok-late_restorer-in-Late.ensures) refl refl

pub tabler-requires : goal.tabler-requires
tabler-requires g c = right c.args.command.now _ c.in-Table.is

pub returns-in_ok-tabler-in-Table-clause-after : goal.returns-in_ok-tabler-in-Table-clause-after
returns-in_ok-tabler-in-Table-clause-after g c =
    streamed c.args.command.now verb.Table c.in-Table.is c.args.text.now.bytes.items _ (job.Table c.in_ok-tabler-in-Table.field-0) refl c.in_ok-tabler-in-Table.ensures.rows (ap (λ tabler. job_course (job.Table tabler)) c.in_ok-tabler-in-Table.ensures.tabler) refl refl

pub forecast-requires-clause-right : goal.forecast-requires-clause-right
forecast-requires-clause-right g c = right c.args.command.now _ c.in-Forecast.is

-- the script is the input of the command's name
forecast_made : (command : Held) (is : command.verb ≡ verb.Forecast) (text : List ℕ) (old new : Meanings) (forecast : ForecastState) (name : Option (List ℕ)) → name ≡ (names_of (verb.Forecast, words command verb.Forecast is)).input
    → bad_schedule_row text ≡ None
    → IsScriptRead name bad_copy_row old new (λ script. forecast ≡ record { packets = packets (words command verb.Forecast is); outlook = record { plan = schedule_rows_of text; robust = robust (words command verb.Forecast is); script = copy_rows_of script } })
    → AfterMaking (view_command command) text old new (Ok (job.Forecast forecast))
forecast_made command is text old new forecast name same rows read =
    let told = words command verb.Forecast is in
    let e = subst (λ name. IsScriptRead name bad_copy_row old new (λ script. forecast ≡ record { packets = packets told; outlook = record { plan = schedule_rows_of text; robust = robust told; script = copy_rows_of script } })) same read in
    made command verb.Forecast is text old new (job.Forecast forecast) (
      rows,
      record {
        text = e.text;
        told = e.told;
        within = e.within;
        after = (e.after.0, record { owes = ap (λ forecast. job_course (job.Forecast forecast)) e.after.1; named = (refl, refl); is = e.after.2 });
      },
    )

pub returns-in_ok-forecast-in-Forecast-clause-after : goal.returns-in_ok-forecast-in-Forecast-clause-after
returns-in_ok-forecast-in-Forecast-clause-after g c =
    let command = c.args.command.now in
    let named = ap (λ (names : Names). names.input) (c.names.ensures ∙ ap (λ v. names_of (v, map string_bytes command.words.now)) c.in-Forecast.is) in
    forecast_made command c.in-Forecast.is c.args.text.now.bytes.items _ _ c.in_ok-forecast-in-Forecast.field-0 _ named c.in_ok-forecast-in-Forecast.ensures.rows c.in_ok-forecast-in-Forecast.ensures.read
