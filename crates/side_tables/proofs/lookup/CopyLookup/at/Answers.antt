use Rattle.std.proofs.Common.{◌≡◌, ◌∙◌, List, Option, ap, sym}
use Rattle.std.specs.Option.{option_map_or}
use Rattle.side_tables.specs.declared.rows.CopyRow.{CopyRow}
use Rattle.side_tables.specs.Rows.{copies_of}
use Rattle.side_tables.proofs.lookup.CopyLookup.at.Goals as goal
use Rattle.side_tables.proofs.lookup.CopyLookup.at.Goals.{in-None, in-Some}

pub copies_at-requires : goal.copies_at-requires
copies_at-requires c =
    let latest = c.self.invariant c.in-Some.ranks c.in-Some.is c.args.t c.at.result c.at.ensures.rank in
    latest.inside

pub invariant_of-self : goal.invariant_of-self
invariant_of-self c = elim c.match-self.branch [
  | in-None w ↦ rw w.self-inside-is c.self.invariant
  | in-Some w ↦ rw (w.self-inside-is, w.at.ensures.same, ← w.in-Some.is) c.self.invariant
]

pub returns-clause-copies : goal.returns-clause-copies
returns-clause-copies c = elim c.match-self.branch [
  | in-None w ↦ w.result-is ∙ (w.times.ensures.copies ∙ ap (λ (rows : List CopyRow). copies_of rows c.args.t) c.self.view_is)
  | in-Some w ↦
      let latest = c.self.invariant w.in-Some.ranks w.in-Some.is c.args.t w.at.result w.at.ensures.rank in
      let copies : w.copies_at.result ≡ copies_of c.self.inside.script c.args.t = w.copies_at.ensures.copies ∙ ap (λ (row : Option CopyRow). option_map_or (λ (row : CopyRow). row.copies) row 1) (sym latest.row) in
      w.result-is ∙ (copies ∙ ap (λ (rows : List CopyRow). copies_of rows c.args.t) c.self.view_is)
]
