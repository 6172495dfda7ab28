-- What playing a store owes: the played store and the play report.
use Rattle.std.specs.Prelude.{◌≡◌, ℕ, ◌+◌, ◌≤◌, Bool, IsTrue, List, Some, unwrap_or}
use Rattle.desk_ports.specs.Courses.{Course, Work, to_output, to_report, WalkWork, work_on}
use Rattle.side_tables.specs.declared.rows.CopyRow.{CopyRow}
use Rattle.side_tables.specs.Rows.{copies_of}
use Rattle.packet_store.specs.declared.fault.WalkFault.{WalkFault}
use Rattle.packet_store.specs.Walks.{walk, packets_bytes}
use Rattle.packet_store.specs.SpacePackets.{Packet}
use Rattle.packet_store.specs.StoreReader.{opened, walk_over}
use Rattle.loss_player.specs.declared.played.Played.{Played}
use Rattle.loss_player.specs.declared.playing.Playing.{Playing}
use Rattle.loss_player.specs.Played.{times_of, place_after, repeated, played_from, played_bytes, played_of, chosen_count, store_numbers}
use Rattle.loss_player.specs.Tallies.{IsTally, no_tally, tally_of}
use Rattle.loss_player.specs.Report.{play_report}

-- What playing a store owes: the copies of the packets before the end, the report if the store is whole, and otherwise
-- the fault of its walk.
abbrev pub play_course : (ℕ → ℕ) → ℕ → List ℕ → Course WalkFault
play_course copies apid store = record {
  before = to_output (played_bytes copies apid store);
  after = to_report (play_report (store_numbers copies apid store));
  ending = (walk (Some apid) store).ending;
}

-- the work of playing a store, whose answer is the numbers of the played store
abbrev pub play_work : (ℕ → ℕ) → ℕ → Work Played WalkFault
play_work copies apid = record { course = play_course copies apid; answer = store_numbers copies apid }

-- ---- on the way

-- a player that has read nothing: the chosen APID, and the rows of the script
pub record PlayerState : Type 0 where
  pub apid : ℕ
  pub rows : List CopyRow

abbrev pub nothing_read : ℕ → List CopyRow → Playing
nothing_read apid rows = record { reader = opened (Some apid); script = rows; tally = no_tally }

-- the APID and the rows of one that has read nothing
abbrev pub player_state : Playing → PlayerState
player_state s = record { apid = unwrap_or s.reader.chosen 0; rows = s.script }

-- the copies of a packet of the chosen APID, or of another one, that is read next
abbrev pub next_copies : Playing → Bool → List ℕ → List ℕ
next_copies s own packet = repeated (times_of own (copies_of s.script) s.tally.played.packets) packet

-- the numbers of all packets, with these that are read next
abbrev pub all_numbers : Playing → List Packet → Played
all_numbers s packets = played_of (copies_of s.script) (s.tally.played.packets + chosen_count s.reader.chosen packets)

-- what is owed for packets that are read next
abbrev pub left_to_play : Playing → WalkWork Packet Played
left_to_play s = record {
  before = λ packets. to_output (packets_bytes (played_from s.reader.chosen (copies_of s.script) s.tally.played.packets packets));
  answer = all_numbers s;
  after = λ packets. to_report (play_report (all_numbers s packets));
}

-- the work of playing what is left of the store
abbrev pub rest_work : Playing → Work Played WalkFault
rest_work s = work_on (left_to_play s) (walk_over s.reader)

-- the numbers so far are those of the packets so far
pub record IsCounted (s : Playing) : Type 0 where
  pub counted : s.tally ≡ tally_of (copies_of s.script) s.tally.played.packets
  pub right : IsTally s.tally

-- a packet was counted, which is of the chosen APID or of another one; the reader and the script are as before
pub record HasCounted (old new : Playing) (own : Bool) : Type 0 where
  pub reader_is : new.reader ≡ old.reader
  pub script_is : new.script ≡ old.script
  pub packets : new.tally.played.packets ≡ place_after own old.tally.played.packets

-- this work is owed: that of the rest of the store
pub record Owes (s : Playing) (work : Work Played WalkFault) : Type 0 where
  pub work_is : work ≡ rest_work s
  pub live : IsTrue s.reader.live
  pub packets : s.tally.played.packets ≤ s.reader.taken
  pub counted : IsCounted s

-- nothing is read
abbrev pub IsPlayer : Playing → Type 0
IsPlayer s = s ≡ nothing_read (unwrap_or s.reader.chosen 0) s.script
