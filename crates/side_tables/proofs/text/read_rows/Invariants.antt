use Rattle.std.proofs.Common.{◌≡◌, ◌<◌, ◌≤◌, ℕ, List, length, Some, All, true}
use Rattle.csv.specs.Reading.{Reached, Ready, default_config, is_flexible, source_of, strip_bom}
use Rattle.csv.specs.declared.parser.State.TheVariants as st
use Rattle.csv.specs.declared.reader.Trim.TheVariants as trim
use Rattle.side_tables.proofs.RowTexts.{AreGood}
use Rattle.side_tables.proofs.text.read_rows.Given as goal

abbrev pub invariant-records : goal.invariant-records
invariant-records g l = (is_flexible l.record-iterator.rdr ≡ true) × (l.record-iterator.rdr.trim ≡ trim.None) × Ready l.record-iterator.rdr × (0 < l.record-iterator.left) × (l.record-iterator.rdr.config ≡ default_config)
    × (length l.fn.text ≤ 1048576)
    × (y : List ℕ) × (raw : List (List (List ℕ))) × (source_of (λ s. Some s.now) l.record-iterator.rdr ≡ Some y)
    × Reached default_config st.StartRecord (strip_bom l.fn.text) raw l.record-iterator.rdr.state y
    × AreGood (g.G.RowGrammar.row_after l.fn.grammar) raw l.rows.items × All (g.G.RowGrammar.is_right l.fn.grammar) l.rows.items
