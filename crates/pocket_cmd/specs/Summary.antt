-- The summary that a trial prints.
use Rattle.std.specs.Prelude.{ℕ, List, ◌++◌, codes}
use Rattle.std.specs.Fmt.{decimal}
use Rattle.trial_chain.specs.declared.trial.Summary.{Summary}
use Rattle.trial_chain.specs.Trials.{trial_summary}
use Rattle.pocket_cmd.specs.Words.{Words, bits, packets, robust, seed}

-- a line: a word and a number
abbrev pub summary_line : List ℕ → ℕ → List ℕ
summary_line word number = word ++ codes " " ++ decimal number ++ codes "\n"

-- the seven lines of a summary
abbrev pub summary_lines : Summary → List ℕ
summary_lines s =
    summary_line (codes "packets") s.packets ++ summary_line (codes "recording") s.recording ++ summary_line (codes "store") s.store
    ++ summary_line (codes "played") s.played ++ summary_line (codes "delivered") s.delivered ++ summary_line (codes "written") s.written
    ++ summary_line (codes "listed") s.listed

-- the summary of what `trial` is told by its words
abbrev pub summary_by : Words → List ℕ
summary_by words = summary_lines (trial_summary (seed words) (packets words) (bits words) (robust words))
