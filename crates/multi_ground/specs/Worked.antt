-- A worked store of two streams.
use Rattle.std.specs.Prelude.{ℕ, List, [], ◌∷◌}
use Rattle.side_tables.specs.declared.rows.StreamRow.{StreamRow}

abbrev pub two_streams : List StreamRow
two_streams = record { apid = 100; bits = 8 } ∷ record { apid = 101; bits = 8 } ∷ []

-- a packet of the first stream; one of the second with the count 5; the next one of the first; and a segment of the second
abbrev pub two_stream_store : List ℕ
two_stream_store =
    0x00 ∷ 0x64 ∷ 0xC0 ∷ 0x00 ∷ 0x00 ∷ 0x03 ∷ 0x85 ∷ 0xB8 ∷ 0xD6 ∷ 0x00
    ∷ 0x00 ∷ 0x65 ∷ 0xC0 ∷ 0x05 ∷ 0x00 ∷ 0x00 ∷ 0x82
    ∷ 0x00 ∷ 0x64 ∷ 0xC0 ∷ 0x01 ∷ 0x00 ∷ 0x00 ∷ 0x82
    ∷ 0x00 ∷ 0x65 ∷ 0x00 ∷ 0x00 ∷ 0x00 ∷ 0x00 ∷ 0x82 ∷ []
