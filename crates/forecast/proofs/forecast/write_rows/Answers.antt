use Rattle.std.proofs.Common.{◌≡◌, ℕ, zero, suc, ◌+◌, ◌<◌, ◌≤◌, List, ◌++◌, append_assoc, append-nil, Option, Result, Ok, sym, ap, ◌∙◌, arith}
use Rattle.desk_ports.specs.declared.desk.Outlet.TheVariants as outlet
use Rattle.desk_ports.specs.Meanings.{Meanings, Counts}
use Rattle.desk_ports.specs.Courses.{Outputs, to_output}
use Rattle.desk_ports.specs.Turns.{Writes}
use Rattle.desk_ports.proofs.Steps.{Writes-cut-more, Writes-err, Writes-is, Writes-more, Writes-ok, Writes-ready}
use Rattle.forecast.specs.declared.stretch.Stretch.{Stretch}
use Rattle.forecast.specs.Prospects.{Prospect, fate_of}
use Rattle.forecast.specs.Outlooks.{ForecastState, ended_before, foresees, row_of, rows_at, stretch_at, closing_rows, header_row, stretch_rows, sure_count}
use Rattle.forecast.proofs.Stretches.{first_rows-at, rows-last, rows-next}
use Rattle.forecast.proofs.forecast.write_rows.Goals as goal

-- the first line and those of the stretches so far
abbrev lines_at : Prospect → ℕ → List ℕ
lines_at p t = header_row ++ rows_at (fate_of p) t

-- and one more
row_more : (p : Prospect) (t : ℕ) → lines_at p t ++ row_of (ended_before (fate_of p) t) ≡ lines_at p (t + 1)
row_more p t = append_assoc header_row (rows_at (fate_of p) t) (row_of (ended_before (fate_of p) t)) ∙ ap (λ (l : List ℕ). header_row ++ l) (sym (rows-next (fate_of p) t))

-- with the line of the last stretch these are all
row_last : (p : Prospect) (n : ℕ) → 1 ≤ n → lines_at p n ++ row_of (stretch_at (fate_of p) n) ≡ header_row ++ stretch_rows (fate_of p) n
row_last p zero some = absurd (omega (arith, some))
row_last p (suc t) some = append_assoc header_row (rows_at (fate_of p) (suc t)) (row_of (stretch_at (fate_of p) (suc t))) ∙ ap (λ (l : List ℕ). header_row ++ l) (sym (rows-last (fate_of p) t))

all_rows : (p : Prospect) (n t : ℕ) (s : Option Stretch) → 1 ≤ n → t ≡ n → s ≡ stretch_at (fate_of p) t → lines_at p t ++ row_of s ≡ header_row ++ stretch_rows (fate_of p) n
all_rows p n t s some last is = (λ i. lines_at p (last i) ++ row_of ((is ∙ ap (stretch_at (fate_of p)) last) i)) ∙ row_last p n some

-- all rows, and the closing ones after them
closed : {D T U V E F G : Type 0} {meaning : D → Meanings} {counts : D → Counts} {a b c d : D} {one : T} {two : U} {r : Result V G} {closing : Outputs} (p : Prospect) (n t : ℕ) (s : Option Stretch)
    → lines_at p t ++ row_of s ≡ header_row ++ stretch_rows (fate_of p) n → closing ≡ to_output (closing_rows p n)
    → Writes {E = E} meaning counts a b (to_output (lines_at p t)) (Ok one) → Writes {E = F} meaning counts b c (to_output (row_of s)) (Ok two) → Writes meaning counts c d closing r
    → Writes meaning counts a d (to_output ((header_row ++ stretch_rows (fate_of p) n) ++ closing_rows p n)) r
closed p n t s rows is first last end =
    Writes-more outlet.Main (header_row ++ stretch_rows (fate_of p) n) (closing_rows p n) (Writes-is (ap to_output rows) (Writes-more outlet.Main (lines_at p t) (row_of s) first last)) (Writes-is is end)

pub returns-in_err-write_all-clause-written : goal.returns-in_err-write_all-clause-written
returns-in_err-write_all-clause-written g c =
    let p = foresees c.args.running.now.outlook in
    let n = c.args.packets in
    let rows = stretch_rows (fate_of p) n in
    Writes-is (ap to_output (sym (append_assoc header_row rows (closing_rows p n)))) (Writes-cut-more _ outlet.Main header_row (rows ++ closing_rows p n) c.from_residual.ensures.1 (rw c.as_bytes.ensures.value at c.in_err-write_all.ensures))

pub loop-init : goal.loop-init
loop-init g c =
    let wrote = c.in_ok-write_all.ensures in
    record {
      written = Writes-is (ap to_output (c.as_bytes.ensures.value ∙ sym (append-nil header_row))) (Writes-ok wrote);
      ready = Writes-ready outlet.Main wrote c.requires.ready;
      running = ap (λ (n : ℕ). record c.args.running.now { packets = n }) c.requires.none;
    }

pub loop-preserved : goal.loop-preserved
loop-preserved g c =
    let p = foresees c.args.running.now.outlook in
    let t = c.loop.counter in
    let kept = c.loop.invariant in
    let wrote = c.in_ok-write_row.ensures in
    let ended = c.take.ensures.ended ∙ ap (λ (r : ForecastState). ended_before (fate_of (foresees r.outlook)) r.packets) kept.running in
    record {
      written = Writes-is (ap to_output (row_more p t)) (Writes-more outlet.Main (lines_at p t) (row_of (ended_before (fate_of p) t)) kept.written (Writes-is (ap (λ (s : Option Stretch). to_output (row_of s)) ended) (Writes-ok wrote)));
      ready = Writes-ready outlet.Main wrote kept.ready;
      running = c.take.ensures.taken ∙ ap (λ (r : ForecastState). record r { packets = r.packets + 1 }) kept.running;
    }

pub returns-in_err-write_row-clause-written : goal.returns-in_err-write_row-clause-written
returns-in_err-write_row-clause-written g c =
    let p = foresees c.args.running.now.outlook in
    let n = c.args.packets in
    let t = c.loop.counter in
    let kept = c.loop.invariant in
    let below : t < n = omega arith in
    let ended = c.take.ensures.ended ∙ ap (λ (r : ForecastState). ended_before (fate_of (foresees r.outlook)) r.packets) kept.running in
    let rows = first_rows-at (fate_of p) n t below in
    let more = rows.rest ++ closing_rows p n in
    let all = append_assoc header_row (rows_at (fate_of p) (t + 1)) rows.rest ∙ ap (λ (l : List ℕ). header_row ++ l) rows.joined in
    let joined = ap (λ (l : List ℕ). l ++ more) (row_more p t) ∙ (sym (append_assoc (lines_at p (t + 1)) rows.rest (closing_rows p n)) ∙ ap (λ (l : List ℕ). l ++ closing_rows p n) all) in
    let row = row_of (ended_before (fate_of p) t) in
    Writes-is (ap to_output joined) (Writes-cut-more _ outlet.Main (lines_at p t ++ row) more c.from_residual-in_err-write_row.ensures.1 (Writes-more outlet.Main (lines_at p t) row kept.written (Writes-is (ap (λ (s : Option Stretch). to_output (row_of s)) ended) c.in_err-write_row.ensures)))

pub returns-in_err-write_row-2-clause-written : goal.returns-in_err-write_row-2-clause-written
returns-in_err-write_row-2-clause-written g c =
    let p = foresees c.args.running.now.outlook in
    let n = c.args.packets in
    let kept = c.loop.invariant in
    let last : c.loop.counter ≡ c.args.packets = omega arith in
    let stretch = c.stretch.ensures ∙ ap (λ (r : ForecastState). stretch_at (fate_of (foresees r.outlook)) r.packets) kept.running in
    let rows = all_rows p n c.loop.counter c.stretch.result c.requires.count.some last stretch in
    let lines = lines_at p c.loop.counter in
    let row = row_of c.stretch.result in
    Writes-is (ap (λ (l : List ℕ). to_output (l ++ closing_rows p n)) rows) (Writes-cut-more _ outlet.Main (lines ++ row) (closing_rows p n) c.from_residual-in_err-write_row-2.ensures.1 (Writes-more outlet.Main lines row kept.written c.in_err-write_row-2.ensures))

pub returns-in_err-write_closing-clause-written : goal.returns-in_err-write_closing-clause-written
returns-in_err-write_closing-clause-written g c =
    let p = foresees c.args.running.now.outlook in
    let n = c.args.packets in
    let kept = c.loop.invariant in
    let last : c.loop.counter ≡ c.args.packets = omega arith in
    let stretch = c.stretch.ensures ∙ ap (λ (r : ForecastState). stretch_at (fate_of (foresees r.outlook)) r.packets) kept.running in
    let rows = all_rows p n c.loop.counter c.stretch.result c.requires.count.some last stretch in
    let closing = ap (λ (r : ForecastState). to_output (closing_rows (foresees r.outlook) r.packets)) kept.running ∙ ap (λ (k : ℕ). to_output (closing_rows p k)) last in
    Writes-err _ c.from_residual-in_err-write_closing.ensures.1 (closed p n c.loop.counter c.stretch.result rows closing kept.written c.in_ok-write_row-2.ensures c.in_err-write_closing.ensures)

pub returns-clause-written : goal.returns-clause-written
returns-clause-written g c =
    let p = foresees c.args.running.now.outlook in
    let n = c.args.packets in
    let kept = c.loop.invariant in
    let last : c.loop.counter ≡ c.args.packets = omega arith in
    let stretch = c.stretch.ensures ∙ ap (λ (r : ForecastState). stretch_at (fate_of (foresees r.outlook)) r.packets) kept.running in
    let rows = all_rows p n c.loop.counter c.stretch.result c.requires.count.some last stretch in
    let closing = ap (λ (r : ForecastState). to_output (closing_rows (foresees r.outlook) r.packets)) kept.running ∙ ap (λ (k : ℕ). to_output (closing_rows p k)) last in
    Writes-ok (closed p n c.loop.counter c.stretch.result rows closing kept.written c.in_ok-write_row-2.ensures c.in_ok-write_closing.ensures)

pub returns-clause-sure : goal.returns-clause-sure
returns-clause-sure g c =
    let last : c.loop.counter ≡ c.args.packets = omega arith in
    c.sure.ensures ∙ (ap (λ (r : ForecastState). sure_count (foresees r.outlook) r.packets) c.loop.invariant.running ∙ ap (sure_count (foresees c.args.running.now.outlook)) last)
