use Rattle.std.proofs.Common.{Bor, List, ℕ, ◌≡◌, ◌<◌, ◌∙◌, ap, sym, refl, rules, arith, inl, inr, true, Some, ◌∷◌, [], ◌++◌, length}
use Rattle.std.specs.Result.{is_ok, result_ok}
use Rattle.std.proofs.lemmas.List.Elements.{All-nil, All-push}
use Rattle.csv.specs.Reading.{Reached, default_config, strip_bom}
use Rattle.csv.specs.Records.{fields_of}
use Rattle.csv.specs.declared.parser.State.TheVariants as st
use Rattle.csv.proofs.ReadFacts.{rows-end, rows-more}
use Rattle.side_tables.proofs.RowTexts.{AreGood-none, AreGood-more, CanCome-flexible, AreRowsOf-end, bad_row-read}
use Rattle.side_tables.proofs.text.read_rows.Given.{Over}
use Rattle.side_tables.proofs.text.read_rows.Goals as goal

pub records-init : goal.records-init
unfolding Reached
records-init g c =
    let fr = c.from_reader.ensures in
    let headers = c.has_headers.ensures in
    let flexible = c.flexible.ensures in
    let start = c.into_iter-record-iterator.ensures.into_iter_gives ∙ refl in
    let rdr = c.into_byte_records-records.ensures.rdr in
    let left = c.into_byte_records-records.ensures.left in
    rw (start, rdr, c.new-rows.ensures.items) (
      rw flexible at fr.flexible,
      rw (flexible, headers) at fr.trim ∙ c.new.ensures.trim,
      inr (inr (rw (flexible, headers) at fr.has_headers, fr.headers)),
      left,
      rw (flexible, headers) at fr.config ∙ c.new.ensures.config,
      c.if-text-gt-MOST_TEXT_BYTES.false,
      strip_bom c.args.text.now,
      [],
      fr.source,
      (sym fr.state, refl),
      AreGood-none (g.G.RowGrammar.row_after c.args.grammar.now),
      All-nil (g.G.RowGrammar.is_right c.args.grammar.now),
    )

-- there are fewer rows than bytes
fewer : (g : Over) (c : goal.After-len g) → c.len.result < length c.args.text.now
fewer g c =
    let inv = c.records.invariant in
    let s = rw (c.in-Some.is, c.in-Ok.is) at ((c.next.ensures.steps inv.3 inv.1).0 inv.2) in
    let none = sym (rw c.deref.ensures.value at c.row.ensures.row) ∙ ap result_ok c.in_default.is in
    let count : c.len.result ≡ length c.records.rows.items = search rules in
    rw count (bad_row-read (g.G.RowGrammar.row_after c.args.grammar.now) c.args.text c.records.record-iterator.rdr c.next.new.self.rdr inv.6 inv.7 c.records.rows.items (fields_of c.in-Ok.record) inv.4 inv.8 inv.9 inv.10 none s.0).1

pub refused-requires : goal.refused-requires
refused-requires g c =
    let inv = c.records.invariant in
    let s = rw (c.in-Some.is, c.in-Err.is) at ((c.next.ensures.steps inv.3 inv.1).0 inv.2) in
    CanCome-flexible (λ (s : Bor (List ℕ)). Some s.now) c.records.record-iterator.rdr c.next.new.self.rdr c.in-Err.error.kind inv.0 s

pub overflow_cast-result : goal.overflow_cast-result
overflow_cast-result g c =
    let less = fewer g c in
    let within = c.records.invariant.5 in
    omega arith

pub overflow_add-result : goal.overflow_add-result
overflow_add-result g c =
    let less = fewer g c in
    let within = c.records.invariant.5 in
    omega arith

pub returns-in_default-clause-fault : goal.returns-in_default-clause-fault
returns-in_default-clause-fault g c =
    let inv = c.records.invariant in
    let s = rw (c.in-Some.is, c.in-Ok.is) at ((c.next.ensures.steps inv.3 inv.1).0 inv.2) in
    let none = sym (rw c.deref.ensures.value at c.row.ensures.row) ∙ ap result_ok c.in_default.is in
    let count : c.len.result ≡ length c.records.rows.items = search rules in
    (inv.5, rw count (bad_row-read (g.G.RowGrammar.row_after c.args.grammar.now) c.args.text c.records.record-iterator.rdr c.next.new.self.rdr inv.6 inv.7 c.records.rows.items (fields_of c.in-Ok.record) inv.4 inv.8 inv.9 inv.10 none s.0).0)

pub records-preserved : goal.records-preserved
records-preserved g c =
    let inv = c.records.invariant in
    let s = rw (c.in-Some.is, c.in-Ok.is) at ((c.next.ensures.steps inv.3 inv.1).0 inv.2) in
    let m = rows-more (λ (s : Bor (List ℕ)). Some s.now) c.records.record-iterator.rdr c.next.new.self.rdr (fields_of c.in-Ok.record) default_config st.StartRecord (strip_bom c.args.text.now) inv.6 inv.7 inv.4 inv.8 inv.9 s.0 in
    let good : is_ok c.push.result ≡ true = search rules in
    let items = rw good at c.push.ensures.items in
    let is = sym (rw c.deref.ensures.value at c.row.ensures.row) ∙ ap result_ok c.in-Ok-row.is in
    let right = rw c.in-Ok-row.is at c.row.ensures.right in
    ((rw (c.in-Some.is, c.in-Ok.is) at (c.next.ensures.steps inv.3 inv.1).3) ∙ inv.0, s.0.3 ∙ inv.1, inl s.1, s.2, s.0.2 ∙ inv.4, inv.5, m.0, inv.7 ++ fields_of c.in-Ok.record ∷ [], m.1, m.2, rw items (AreGood-more (g.G.RowGrammar.row_after c.args.grammar.now) inv.7 c.records.rows.items (fields_of c.in-Ok.record) c.in-Ok-row.row inv.10 is), rw items (All-push (g.G.RowGrammar.is_right c.args.grammar.now) c.records.rows.items c.in-Ok-row.row inv.11 right))

pub returns-clause-rows : goal.returns-clause-rows
returns-clause-rows g c =
    let inv = c.records.invariant in
    let s = rw c.in-None.is at ((c.next.ensures.steps inv.3 inv.1).0 inv.2) in
    let none = rows-end (λ (s : Bor (List ℕ)). Some s.now) c.records.record-iterator.rdr c.next.new.self.rdr [] default_config inv.6 inv.4 inv.8 s in
    AreRowsOf-end (g.G.RowGrammar.row_after c.args.grammar.now) c.args.text.now inv.7 c.records.rows.items c.records.record-iterator.rdr.state inv.6 inv.5 inv.10 inv.9 none
