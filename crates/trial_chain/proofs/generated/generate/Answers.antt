use Rattle.std.proofs.Common.{rules, ◌≡◌, ℕ, suc, ◌+◌, ◌++◌, List, false, All, length, refl, sym, ap, ◌∙◌, subst, arith, append-nil}
use Rattle.std.proofs.lemmas.List.{length-replicate}
use Rattle.std.proofs.lemmas.List.Elements.{All-nil}
use Rattle.bit_vectors.specs.Vectors.{vector_bytes}
use Rattle.side_tables.specs.declared.rows.CopyRow.{CopyRow}
use Rattle.side_tables.specs.Rows.{IsCopyRow, copies_of}
use Rattle.flight_chain.specs.Recordings.{recording_of}
use Rattle.trial_chain.specs.Draws.{drawn, next_number, generator_at}
use Rattle.trial_chain.specs.Trials.{copies_by, next_input, rows_for, trial_copies, trial_input, trial_inputs}
use Rattle.trial_chain.proofs.TrialHistories.{recording-more, script-more, script-start}
use Rattle.trial_chain.proofs.generated.generate.Goals as goal

pub packets-init : goal.packets-init
unfolding generator_at trial_input
packets-init c =
    let input = ap (λ g. g.input) c.in_ok-generator.ensures in
    record {
      latest = 0;
      next = refl;
      number = ap (λ g. g.number) c.in_ok-generator.ensures;
      input = input;
      places = ap length input ∙ length-replicate c.args.trial.f false;
      line = search rules;
      recording = c.in_ok-append.ensures.appended ∙ (ap (λ bytes. bytes ++ vector_bytes c.in_ok-generator.generator.input) c.new-recording.ensures.items ∙ (ap vector_bytes input ∙ sym (append-nil _)));
      script = (subst (All IsCopyRow) (sym c.new-script.ensures.items) (All-nil IsCopyRow), script-start c.args.trial.seed c.new-script.result.items c.new-script.ensures.items);
    }

pub packets-preserved : goal.packets-preserved
unfolding generator_at trial_input
packets-preserved c =
    let i = c.packets.invariant in
    let input = c.advance-copies.ensures.input ∙ λ k. next_input (drawn (next_number (i.number k))) (i.input k) in
    let copies = c.advance-copies.ensures.copies ∙ ap (λ n. copies_by (drawn (next_number (next_number n)))) i.number in
    let t : c.packets.t + 1 ≡ suc (suc i.latest) = omega (arith, i.next) in
    let so : (s : ℕ) → copies_of c.packets.script.items s ≡ trial_copies c.args.trial.seed (suc i.latest) s = λ s. i.script.1 s ∙ ap (λ n. trial_copies c.args.trial.seed n s) i.next in
    record {
      latest = suc i.latest;
      next = t;
      number = c.advance-copies.ensures.number ∙ ap (λ n. next_number (next_number n)) i.number;
      input = input;
      places = c.advance-copies.ensures.places ∙ i.places;
      line = i.line;
      recording = c.in_ok-append-2.ensures.appended
          ∙ ((λ k. i.recording k ++ vector_bytes ((input ∙ ap (trial_input c.args.trial.seed c.args.trial.f) (sym i.next)) k)) ∙ sym (recording-more c.args.trial.seed c.args.trial.f c.packets.t));
      script = (
        c.in_ok-note.ensures.right,
        λ s.
            ap (λ (rows : List CopyRow). copies_of rows s) (c.in_ok-note.ensures.rows ∙ ap (λ n. c.packets.script.items ++ rows_for n c.advance-copies.result) i.next)
            ∙ (script-more c.args.trial.seed i.latest c.advance-copies.result c.packets.script.items copies so s ∙ ap (λ n. trial_copies c.args.trial.seed n s) (sym t)),
      );
    }

pub returns-clause-recording : goal.returns-clause-recording
returns-clause-recording c =
    let t : c.packets.t ≡ c.args.trial.packets = omega (arith, c.packets-test.false, c.packets.auto.t, c.packets.auto.t-end, c.args.trial.bounds.some) in
    c.packets.invariant.recording ∙ ap (λ n. recording_of (trial_inputs c.args.trial.seed n c.args.trial.f)) t
