-- What is kept of the packets so far, and the text of a forecast.
use Rattle.std.specs.Fmt.{decimal}
use Rattle.std.specs.List.{count_by, flat_map, range_with_len}
use Rattle.std.specs.Option.{option_map_or}
use Rattle.std.specs.Prelude.{ℕ, List, ◌++◌, codes, Option, ◌≡◌, ◌≤◌, zero, suc, [], Some, None, if◌then◌else◌}
use Rattle.side_tables.specs.Rows.{ScheduleRows}
use Rattle.side_tables.specs.declared.rows.CopyRow.{CopyRow}
use Rattle.loss_player.specs.Played.{played_of}
use Rattle.loss_player.specs.Report.{first_text}
use Rattle.loss_player.specs.Tallies.{IsTally, tally_of}
use Rattle.loss_player.specs.declared.played.Tally.{Tally}
use Rattle.forecast.specs.Prospects.{Prospect, fate_of, is_sure, latest_mask_sure, latest_sure, prospect_of}
use Rattle.forecast.specs.Stretches.{stretches, changes_after, ended, stretch_to}
use Rattle.forecast.specs.declared.fate.Fate.{Fate}
use Rattle.forecast.specs.declared.fate.Fate.TheVariants.{Lost, Open, Sure}
use Rattle.forecast.specs.declared.foreseen.Foreseen.{Foreseen}
use Rattle.forecast.specs.declared.latest.LatestSure.{LatestSure}
use Rattle.forecast.specs.declared.stretch.Stretch.{Stretch}

-- ---- the text of a forecast

-- the text's first line
abbrev pub header_row : List ℕ
header_row = codes "first,last,state\n"

abbrev pub fate_text : Fate → List ℕ
fate_text Lost = codes "lost"
fate_text Sure = codes "sure"
fate_text Open = codes "open"

-- the line of a stretch
abbrev pub stretch_row : Stretch → List ℕ
stretch_row s = decimal s.first ++ codes "," ++ decimal s.last ++ codes "," ++ fate_text s.fate ++ codes "\n"

-- the line of the first number that arrives, or a dash, and of the widest difference of two that do
abbrev pub gaps_row : Option ℕ → ℕ → List ℕ
gaps_row first widest = codes "gaps," ++ first_text first ++ codes "," ++ decimal widest ++ codes "\n"

-- the last line: how many packets there are, and how many are sure
abbrev pub end_row : ℕ → ℕ → List ℕ
end_row packets sure = codes "end," ++ decimal packets ++ codes "," ++ decimal sure ++ codes "\n"

-- the lines of the stretches of n packets
abbrev pub stretch_rows : (ℕ → Fate) → ℕ → List ℕ
stretch_rows fate n = flat_map stretch_row (stretches fate n)

-- how many of n packets are sure
abbrev pub sure_count : Prospect → ℕ → ℕ
sure_count p n = count_by (is_sure p) (range_with_len 0 n)

-- the last two lines
abbrev pub closing_rows : Prospect → ℕ → List ℕ
closing_rows p n = gaps_row (played_of p.copies n).first (played_of p.copies n).widest ++ end_row n (sure_count p n)

-- the text for n packets
abbrev pub forecast_text : Prospect → ℕ → List ℕ
forecast_text p n = header_row ++ stretch_rows (fate_of p) n ++ closing_rows p n

-- ---- what is kept of the packets so far

-- what the packets are foreseen by: the rows of the schedule, the required robustness of packets to which it gives none, and
-- the rows of the script
pub record OutlookState : Type 0 where
  pub plan : ScheduleRows
  pub robust : ℕ
  pub script : List CopyRow

-- the prospect that it gives
abbrev pub foresees : OutlookState → Prospect
foresees s = prospect_of s.plan s.robust s.script

-- this is what the prospect says of the packet
pub record IsForeseenAs (p : Prospect) (t : ℕ) (foreseen : Foreseen) : Type 0 where
  pub mask : foreseen.mask ≡ (p.flags t).f
  pub content : foreseen.content ≡ (p.flags t).r
  pub robust : foreseen.robust ≡ p.robust t
  pub copies : foreseen.copies ≡ p.copies t

-- the latest of the first t packets whose mask is sure, and the latest sure one
abbrev pub latest_at : Prospect → ℕ → LatestSure
latest_at p t = record { mask = latest_mask_sure p t; packet = latest_sure p t }

-- the stretch of the latest of the first t packets, as far as it goes
abbrev pub stretch_at : (ℕ → Fate) → ℕ → Option Stretch
stretch_at fate zero = None
stretch_at fate (suc t) = Some (stretch_to fate t)

-- the stretch that ends just before the packet t
abbrev pub ended_before : (ℕ → Fate) → ℕ → Option Stretch
ended_before fate zero = None
ended_before fate (suc t) = if changes_after fate t then Some (stretch_to fate t) else None

-- the lines of the stretches that end before the latest of the first t packets
abbrev pub rows_at : (ℕ → Fate) → ℕ → List ℕ
rows_at fate zero = []
rows_at fate (suc t) = flat_map stretch_row (ended fate t)

-- the line of a stretch, if there is one
abbrev pub row_of : Option Stretch → List ℕ
row_of s = option_map_or stretch_row s []

-- what is kept of the first t packets
pub record HasForeseen (p : Prospect) (t : ℕ) (latest : LatestSure) (stretch : Option Stretch) (tally : Tally) (sure : ℕ) : Type 0 where
  pub latest_is : latest ≡ latest_at p t
  pub stretch_is : stretch ≡ stretch_at (fate_of p) t
  pub tally_is : tally ≡ tally_of p.copies t
  pub sure_is : sure ≡ sure_count p t
  pub few : sure ≤ t
  pub right : IsTally tally

-- how many packets there are, and by what they are foreseen
pub record ForecastState : Type 0 where
  pub packets : ℕ
  pub outlook : OutlookState

-- how many packets there can be
pub record IsPacketCount (packets : ℕ) : Type 0 where
  pub some : 1 ≤ packets
  pub most : packets ≤ 1000000
