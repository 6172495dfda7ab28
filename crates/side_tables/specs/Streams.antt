-- Streams: an APID each, and the length of the vectors of its packets.
use Rattle.std.specs.Prelude.{◌≡◌, ℕ, ◌<◌, ◌≤◌, nat_lt, Bool, not, ◌&&◌, ◌==◌, if◌then◌else◌, List, length, slice_index_or, All, position, Option, Some, None}
use Rattle.std.specs.List.{list_any}
use Rattle.bit_vectors.specs.Vectors.{most_places}
use Rattle.side_tables.specs.declared.rows.StreamRow.{StreamRow}
use Rattle.side_tables.specs.Grammar.{◌>>=◌, field_number}
use Rattle.side_tables.specs.Texts.{Grammar, rows_of, bad_row}

abbrev pub no_stream : StreamRow
no_stream = record { apid = 0; bits = 0 }

-- the stream with an index
abbrev pub stream_at : List StreamRow → ℕ → StreamRow
stream_at rows index = slice_index_or rows index no_stream

abbrev pub has_apid : ℕ → StreamRow → Bool
has_apid apid row = row.apid == apid

-- the index of the stream with an APID, if one has it
abbrev pub stream_of : List StreamRow → ℕ → Option ℕ
stream_of rows apid = position (has_apid apid) rows

-- an APID that is not that of idle packets, and the length of a vector
pub record IsStreamRow (row : StreamRow) : Type 0 where
  pub apid : row.apid ≤ 2046
  pub some : 1 ≤ row.bits
  pub most : row.bits ≤ most_places

-- at most 64 streams, no two of which have one APID
pub record AreStreams (rows : List StreamRow) : Type 0 where
  pub right : All IsStreamRow rows
  pub few : length rows ≤ 64
  pub apart : (i j : ℕ) → i < length rows → j < length rows → (stream_at rows i).apid ≡ (stream_at rows j).apid → i ≡ j

-- for each APID the index of the stream that has it
abbrev pub AreIndexesOf : List StreamRow → List (Option ℕ) → Type 0
AreIndexesOf rows indexes = (apid : ℕ) → slice_index_or indexes apid None ≡ stream_of rows apid

-- APID, bits: a stream
abbrev pub stream_row_of : List (List ℕ) → Option StreamRow
stream_row_of fields =
    if length fields == 2 then (do
      apid ← field_number fields 0 0 2046
      bits ← field_number fields 1 1 most_places
      Some (record { apid = apid; bits = bits }))
    else None

-- a stream after others: these are fewer than 64, and none of them has its APID
abbrev pub stream_row_after : Grammar StreamRow
stream_row_after before fields = do
  row ← stream_row_of fields
  if nat_lt (length before) 64 && not (list_any (has_apid row.apid) before) then Some row else None

-- the streams of a text, and the number of its first record that is not a row
abbrev pub streams_of : List ℕ → List StreamRow
streams_of text = rows_of stream_row_after text

abbrev pub bad_stream_row : List ℕ → Option ℕ
bad_stream_row text = bad_row stream_row_after text
