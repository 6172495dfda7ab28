-- Words for worked stores and reports.
use Rattle.std.specs.Prelude.{ℕ, List, [], ◌∷◌}
use Rattle.side_tables.specs.declared.rows.CopyRow.{CopyRow}

-- so many copies of the packets from the first to the last
abbrev pub copies_row : ℕ → ℕ → ℕ → CopyRow
copies_row first last copies = record { first = first; last = last; step = 1; copies = copies }

-- For the APID 100: its packet, one of the APID 101, its packet with the sequence count of the first, an idle one, and its
-- packet.
abbrev pub worked_store : List ℕ
worked_store =
    0x00 ∷ 0x64 ∷ 0xC0 ∷ 0x07 ∷ 0x00 ∷ 0x00 ∷ 0xA0
    ∷ 0x00 ∷ 0x65 ∷ 0xC0 ∷ 0x07 ∷ 0x00 ∷ 0x00 ∷ 0xB0
    ∷ 0x00 ∷ 0x64 ∷ 0xC0 ∷ 0x07 ∷ 0x00 ∷ 0x00 ∷ 0xA1
    ∷ 0x07 ∷ 0xFF ∷ 0xC0 ∷ 0x00 ∷ 0x00 ∷ 0x00 ∷ 0xB1
    ∷ 0x00 ∷ 0x64 ∷ 0xC0 ∷ 0x09 ∷ 0x00 ∷ 0x00 ∷ 0xA2 ∷ []
