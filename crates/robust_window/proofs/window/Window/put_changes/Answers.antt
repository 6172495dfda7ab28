use Rattle.std.proofs.Common.{◌≡◌, ℕ, ◌+◌, ◌-◌, ◌*◌, ◌≤◌, Bool, List, [], length, get_or, sym, ap, subst, ◌∙◌, arith, below_more}
use Rattle.std.proofs.lemmas.List.Elements.{All-from_get_or}
use Rattle.bit_vectors.specs.Vectors.{byte_count}
use Rattle.state_bytes.specs.Parts.{Puts, vector_part}
use Rattle.state_bytes.proofs.Parts.{vector_part_size}
use Rattle.robust_window.specs.Window.{WindowState, change_back}
use Rattle.robust_window.proofs.SavedWindows.{put_more, room_more}
use Rattle.robust_window.proofs.window.Window.put_changes.Goals as goal

pub loop-step-preserved : goal.loop-step-preserved
loop-step-preserved c =
    let before = c.loop-step.invariant in
    let full : length c.args.self.now.changes ≡ 16 = ap (λ (k : WindowState). length k.changes) (sym c.self.view_is) ∙ c.self.invariant.full in
    let place : 15 - (15 - c.loop-step.step) ≡ c.loop-step.step = omega (arith, c.loop-step-test.true) in
    let change : c.back.result.now ≡ get_or c.args.self.now.changes c.loop-step.step [] =
    c.back.ensures.change ∙ ap (λ (k : WindowState). change_back k.changes (15 - c.loop-step.step)) c.self.view_is ∙ ap (λ n. get_or c.args.self.now.changes n []) place in
    let places : length c.back.result.now ≡ length c.args.self.now.recent = c.back.ensures.places ∙ c.self.invariant.places ∙ ap (λ (k : WindowState). length k.recent) c.self.view_is in
    let size : length (vector_part c.back.result.now) ≤ byte_count (length c.args.self.now.recent) + 1 = subst (λ n. length (vector_part c.back.result.now) ≤ byte_count n + 1) places (vector_part_size c.back.result.now) in
    let more = room_more c.loop-step.step c.loop-step.end (length (vector_part c.back.result.now)) (byte_count (length c.args.self.now.recent) + 1) (length c.args.out.now) c.loop-step-test.true before.room size in
    let room : c.put_vector-end.result + (16 - (c.loop-step.step + 1)) * (byte_count (length c.args.self.now.recent) + 1) ≤ length c.args.out.now = rw c.put_vector-end.ensures.end_is more in
    let put : Puts c.loop-step.out c.put_vector-end.new.out c.loop-step.end (vector_part (get_or c.args.self.now.changes c.loop-step.step [])) c.put_vector-end.result =
    subst (λ (v : List Bool). Puts c.loop-step.out c.put_vector-end.new.out c.loop-step.end (vector_part v) c.put_vector-end.result) change c.put_vector-end.ensures in
    record {
      puts = put_more c.args.out.now c.loop-step.out c.put_vector-end.new.out c.args.self.now.changes c.loop-step.step c.args.at c.loop-step.end c.put_vector-end.result (omega (arith, full, c.loop-step-test.true)) before.puts put (omega (arith, room));
      room = room;
      places = below_more (λ (k : ℕ). length (get_or c.args.self.now.changes k []) ≡ length c.args.self.now.recent) c.loop-step.step before.places (ap (λ (v : List Bool). length v) (sym change) ∙ places);
    }

pub returns-clause-sixteen : goal.returns-clause-sixteen
returns-clause-sixteen c =
    let full : length c.args.self.now.changes ≡ 16 = ap (λ (k : WindowState). length k.changes) (sym c.self.view_is) ∙ c.self.invariant.full in
    record {
      count = full;
      places = All-from_get_or (λ (change : List Bool). length change ≡ length c.args.self.now.recent) c.args.self.now.changes [] (λ k lt. c.loop-step.invariant.places k (omega (arith, full, lt, c.loop-step-test.false)));
    }
