-- What is restored of a history of which each packet arrives so many times.
use Rattle.std.specs.Prelude.{◌≡◌, ◌≤◌, ℕ, ◌+◌, ◌-◌, ◌%◌, ◌==◌, Bool, true, false, ◌&&◌, if◌then◌else◌, List, [], ◌∷◌, ◌++◌, map, length, codes, Some}
use Rattle.std.specs.Fmt.{decimal}
use Rattle.std.specs.Io.KnownBytes.{append_known}
use Rattle.std.specs.List.{flat_map, range_with_len, sum_by}
use Rattle.bit_vectors.specs.Vectors.{vector_bytes}
use Rattle.desk_ports.specs.declared.desk.Inlet.TheVariants as inlet
use Rattle.desk_ports.specs.declared.desk.Outlet.TheVariants as outlet
use Rattle.desk_ports.specs.Meanings.{Meanings, left, made}
use Rattle.mask_update.specs.Histories.{History, IsValid, input_at}
use Rattle.packet_encode.specs.Deliveries.{Cause, Lost, Unsynced, Gap, arrivals, cause_at, listed_numbers, written_numbers}
use Rattle.packet_store.specs.SpacePackets.{period}
use Rattle.flight_chain.specs.Compressing.{data_at, store_of}
use Rattle.loss_player.specs.Played.{AreGapsShort, played_bytes}
use Rattle.ground_chain.specs.declared.restored.Restored.{Restored}
use Rattle.ground_chain.specs.Run.{Arrival}
use Rattle.ground_chain.specs.Report.{header_row, end_row}

-- the packets of a history as they arrive
abbrev pub arrival_at : History → ℕ → Arrival
arrival_at h t = record { count = t % period; body = data_at h t }

abbrev pub history_arrivals : History → (ℕ → ℕ) → List Arrival
history_arrivals h copies = map (arrival_at h) (arrivals copies (length h.steps))

-- the inputs of the written packets, in rising order
abbrev pub restored_bytes : History → (ℕ → ℕ) → List ℕ
restored_bytes h copies = flat_map (λ t. vector_bytes (input_at h t)) (written_numbers h copies)

-- ---- the report

-- a row of the report: packets that are not written, from one number to another, and why
pub record ListedRow : Type 0 where
  pub first : ℕ
  pub last : ℕ
  pub cause : Cause

abbrev pub is_lost : Cause → Bool
is_lost Lost = true
is_lost Unsynced = false
is_lost (Gap level) = false

-- the numbers of a row
abbrev pub row_numbers : ListedRow → List ℕ
row_numbers row = range_with_len row.first (row.last - row.first + 1)

-- a row in front of others: neighbouring lost numbers stand as one row
abbrev pub before_rows : ListedRow → List ListedRow → List ListedRow
before_rows row [] = row ∷ []
before_rows row (next ∷ rows) =
    if is_lost row.cause && is_lost next.cause && (next.first == row.last + 1) then record next { first = row.first } ∷ rows
    else row ∷ next ∷ rows

-- a row for each listed packet, in rising order, and neighbouring lost numbers stand as one
abbrev pub rows_of_numbers : History → (ℕ → ℕ) → List ℕ → List ListedRow
rows_of_numbers h copies [] = []
rows_of_numbers h copies (t ∷ numbers) = before_rows (record { first = t; last = t; cause = cause_at h copies t }) (rows_of_numbers h copies numbers)

abbrev pub listed_rows : History → (ℕ → ℕ) → List ListedRow
listed_rows h copies = rows_of_numbers h copies (listed_numbers h copies)

-- the cause and what belongs to it
abbrev pub cause_text : Cause → List ℕ
cause_text Lost = codes "lost,0"
cause_text Unsynced = codes "unsynced,0"
cause_text (Gap level) = codes "gap," ++ decimal level

abbrev pub row_text : ListedRow → List ℕ
row_text row = decimal row.first ++ codes "," ++ decimal row.last ++ codes "," ++ cause_text row.cause ++ codes "\n"

-- the packets that arrive, the written ones, the repeats and the listed ones
abbrev pub delivered_numbers : History → (ℕ → ℕ) → Restored
delivered_numbers h copies = record {
  packets = length (arrivals copies (length h.steps));
  written = length (written_numbers h copies);
  repeats = sum_by (λ t. copies t - 1) (range_with_len 0 (length h.steps));
  listed = length (listed_numbers h copies);
}

-- the report
abbrev pub report_text : History → (ℕ → ℕ) → List ℕ
report_text h copies = header_row ++ flat_map row_text (listed_rows h copies) ++ end_row (delivered_numbers h copies)

-- ---- what the rows mean

-- the row has at least one number, its cause is that of each of them, and only lost numbers stand together
pub record TellsOf (h : History) (copies : ℕ → ℕ) (row : ListedRow) : Type 0 where
  pub order : row.first ≤ row.last
  pub cause : (t : ℕ) → row.first ≤ t → t ≤ row.last → cause_at h copies t ≡ row.cause
  pub alone : is_lost row.cause ≡ false → row.first ≡ row.last

-- ---- what a run writes

-- To the outputs were added the inputs of the written packets and the report of all others, and these are the numbers.
pub record IsDelivered (h : History) (copies : ℕ → ℕ) (restored : Restored) (old new : Meanings) : Type 0 where
  pub output : made new outlet.Main ≡ append_known (made old outlet.Main) (restored_bytes h copies)
  pub report : made new outlet.Report ≡ append_known (made old outlet.Report) (report_text h copies)
  pub numbers : restored ≡ delivered_numbers h copies

-- The input is the played store of a valid history: each packet arrives so many times, with gaps that are shorter than the
-- period of the sequence counts.
pub record IsPlayed (f apid : ℕ) (h : History) (copies : ℕ → ℕ) (m : Meanings) : Type 0 where
  pub valid : IsValid h
  pub places : h.places ≡ f
  pub chosen : apid ≤ 2046
  pub gaps : AreGapsShort copies (length h.steps)
  pub input : left m inlet.Main ≡ Some (played_bytes copies apid (store_of h apid))
