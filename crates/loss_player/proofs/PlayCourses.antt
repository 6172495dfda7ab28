-- The walk over a played store, and what is owed for its rest, packet by packet.
use Rattle.std.proofs.Common.{◌≡◌, ℕ, ◌+◌, ◌≤◌, Bool, true, false, if◌then◌else◌, List, ◌∷◌, ◌++◌, replicate, Option, Some, refl, sym, ap, ◌∙◌, subst, zero-add, arith, suc, ◌^◌, ◌<◌, ◌⊎◌, [], length, All, None, inl, inr}
use Rattle.std.proofs.lemmas.Bool.{cases_lt}
use Rattle.std.proofs.lemmas.Grind.{flat_map-append}
use Rattle.std.proofs.lemmas.List.Concat.{flat_map-cons}
use Rattle.std.proofs.lemmas.List.Elements.{All-append, All-replicate}
use Rattle.std.proofs.lemmas.List.Sums.{sum_by-cons}
use Rattle.desk_ports.specs.Courses.{Work, to_output, to_report, work_on}
use Rattle.desk_ports.specs.Meanings.{Meanings}
use Rattle.desk_ports.specs.declared.desk.Outlet.TheVariants as outlet
use Rattle.desk_ports.proofs.Courses.{to_outlet-append}
use Rattle.desk_ports.proofs.Steps.{GoesOn, IsDone}
use Rattle.side_tables.specs.Rows.{copies_of}
use Rattle.packet_store.specs.SpacePackets.{Packet, packet_bytes, is_chosen}
use Rattle.packet_store.specs.StoreReader.{ReaderState, TakesPacket, walk_over}
use Rattle.packet_store.specs.Walks.{walk, packets_bytes, IsGood, Walk, walk_from, packet_first}
use Rattle.packet_store.specs.declared.fault.WalkFault.{WalkFault}
use Rattle.packet_store.specs.declared.fault.WalkFault.TheVariants as fault
use Rattle.packet_store.specs.declared.reader.Taken.{Taken}
use Rattle.packet_store.proofs.StoreTurns.{packet_of}
use Rattle.packet_store.proofs.Walks.{walk_from-good, walk_from-none, walk_from-too_many}
use Rattle.loss_player.specs.Played.{times_of, place_after, played_from, repeated, played_of, chosen_count, store_numbers}
use Rattle.loss_player.specs.Playing.{play_course, play_work, nothing_read, player_state, next_copies, all_numbers, left_to_play, rest_work, IsCounted, HasCounted, Owes, IsPlayer}
use Rattle.loss_player.specs.Report.{play_report}
use Rattle.loss_player.specs.declared.played.Played.{Played}
use Rattle.loss_player.specs.declared.played.Tally.{Tally}
use Rattle.loss_player.specs.declared.playing.Playing.{Playing}
use Rattle.loss_player.proofs.PlayedPackets.{packets_bytes-replicate}

-- ---- one packet

number_with : (own : Bool) (t more : ℕ) → t + ((if own then 1 else 0) + more) ≡ place_after own t + more
number_with true t more = omega arith
number_with false t more = omega arith

chosen_count-cons : (chosen : Option ℕ) (p : Packet) (packets : List Packet) → chosen_count chosen (p ∷ packets) ≡ (if is_chosen chosen p.header then 1 else 0) + chosen_count chosen packets
chosen_count-cons chosen p packets =
    let one : Packet → ℕ = λ q. if is_chosen chosen q.header then 1 else 0 in
    sum_by-cons one p packets

-- how often a packet arrives that is read next
abbrev times_at : Playing → Bool → ℕ
times_at s own = times_of own (copies_of s.script) s.tally.played.packets

-- the packets that arrive of these
abbrev rest_packets : Playing → List Packet → List Packet
rest_packets s packets = played_from s.reader.chosen (copies_of s.script) s.tally.played.packets packets

module _ (s t : Playing) (reader : ReaderState) (a b : Meanings) (given : Taken) (takes : TakesPacket s.reader reader a b given) (is : HasCounted (record s { reader = reader }) t given.chosen) (packets : List Packet) where
  same_chosen : s.reader.chosen ≡ t.reader.chosen
  same_chosen = sym (ap (λ (r : ReaderState). r.chosen) is.reader_is ∙ ap (λ (r : ReaderState). r.chosen) takes.others)

  taken_packets : rest_packets s (packet_of takes.header reader ∷ packets) ≡ replicate (times_at s given.chosen) (packet_of takes.header reader) ++ rest_packets t packets
  taken_packets =
      ap (λ (own : Bool). replicate (times_at s own) (packet_of takes.header reader) ++ played_from s.reader.chosen (copies_of s.script) (place_after own s.tally.played.packets) packets) (sym takes.is_chosen)
      ∙ (let chosen = same_chosen in let rows = sym is.script_is in let number = sym is.packets in
      λ i. replicate (times_at s given.chosen) (packet_of takes.header reader) ++ played_from (chosen i) (copies_of (rows i)) (number i) packets)

  pub taken_bytes : packets_bytes (rest_packets s (packet_of takes.header reader ∷ packets)) ≡ next_copies s given.chosen reader.packet ++ packets_bytes (rest_packets t packets)
  taken_bytes =
      ap packets_bytes taken_packets
      ∙ (flat_map-append packet_bytes (replicate (times_at s given.chosen) (packet_of takes.header reader)) (rest_packets t packets)
      ∙ ap (λ (l : List ℕ). l ++ packets_bytes (rest_packets t packets)) (packets_bytes-replicate (times_at s given.chosen) (packet_of takes.header reader) ∙ ap (repeated (times_at s given.chosen)) (sym takes.packet)))

  taken_count : s.tally.played.packets + chosen_count s.reader.chosen (packet_of takes.header reader ∷ packets) ≡ t.tally.played.packets + chosen_count t.reader.chosen packets
  taken_count =
      ap (λ (k : ℕ). s.tally.played.packets + k) (chosen_count-cons s.reader.chosen (packet_of takes.header reader) packets)
      ∙ (ap (λ (b : Bool). s.tally.played.packets + ((if b then 1 else 0) + chosen_count s.reader.chosen packets)) (sym takes.is_chosen)
      ∙ (number_with given.chosen s.tally.played.packets (chosen_count s.reader.chosen packets)
      ∙ (let chosen = same_chosen in let number = sym is.packets in λ i. number i + chosen_count (chosen i) packets)))

  pub taken_numbers : all_numbers s (packet_of takes.header reader ∷ packets) ≡ all_numbers t packets
  taken_numbers = let rows = sym is.script_is in let count = taken_count in λ i. played_of (copies_of (rows i)) (count i)

-- a packet that is played: its copies are owed, and after them what the packets after it owe
pub GoesOn-played : (s t : Playing) (reader : ReaderState) (a b : Meanings) (given : Taken) (takes : TakesPacket s.reader reader a b given) → HasCounted (record s { reader = reader }) t given.chosen
    → GoesOn (left_to_play s) (left_to_play t) (packet_of takes.header reader) (to_output (next_copies s given.chosen reader.packet))
GoesOn-played s t reader a b given takes is = record {
  before = λ packets. ap to_output (taken_bytes s t reader a b given takes is packets) ∙ to_outlet-append outlet.Main (next_copies s given.chosen reader.packet) (packets_bytes (rest_packets t packets));
  answer = λ packets. taken_numbers s t reader a b given takes is packets;
  after = λ packets. ap (λ (numbers : Played). to_report (play_report numbers)) (taken_numbers s t reader a b given takes is packets);
}

place_after-most : (own : Bool) (t : ℕ) → place_after own t ≤ t + 1
place_after-most true t = omega arith
place_after-most false t = omega arith

-- after it the rest of the store is still to be played
pub Owes-played : (s t : Playing) (reader : ReaderState) (a b : Meanings) (given : Taken) (work : Work Played WalkFault) → Owes s work → TakesPacket s.reader reader a b given → HasCounted (record s { reader = reader }) t given.chosen → IsCounted t → Owes t (work_on (left_to_play t) (walk_over reader))
Owes-played s t reader a b given work owes takes is counted =
    let reader_is = is.reader_is ∙ takes.others in
    record {
      work_is = let same = sym is.reader_is in λ i. work_on (left_to_play t) (walk_over (same i));
      live = ap (λ (r : ReaderState). r.live) reader_is ∙ owes.live;
      packets = omega (arith, place_after-most given.chosen s.tally.played.packets, is.packets, owes.packets, ap (λ (r : ReaderState). r.taken) reader_is);
      counted = counted;
    }

-- if nothing is left, the report of the numbers so far is owed
pub IsDone-played : (s : Playing) (work : Work Played WalkFault) → Owes s work → IsDone (left_to_play s) (to_report (play_report s.tally.played)) s.tally.played
IsDone-played s work owes =
    let count : s.tally.played.packets + 0 ≡ s.tally.played.packets = omega arith in
    let numbers = ap (played_of (copies_of s.script)) count ∙ sym (ap (λ (t : Tally). t.played) owes.counted.counted) in
    record { nothing = refl; last_is = ap (λ (played : Played). to_report (play_report played)) numbers; answer_is = numbers }

-- ---- the whole store

-- the work of playing a store is owed when nothing is read
pub Owes-unread : (s : Playing) → IsPlayer s → Owes s (play_work (copies_of s.script) (player_state s).apid)
Owes-unread s is = subst (λ (p : Playing). Owes p (play_work (copies_of s.script) (player_state s).apid)) (sym is) (record {
  work_is = λ i. record { course = λ store. course store i; answer = λ store. numbers store i };
  live = refl;
  packets = omega arith;
  counted = record { counted = refl; right = record { delivered = omega arith; dropped = omega arith; repeats = omega arith; latest = tt } };
}) where
  numbers : (store : List ℕ) → store_numbers (copies_of s.script) (player_state s).apid store ≡ (rest_work (nothing_read (player_state s).apid s.script)).answer store
  numbers store = ap (played_of (copies_of s.script)) (sym (zero-add (chosen_count (Some (player_state s).apid) (walk (Some (player_state s).apid) store).packets)))

  course : (store : List ℕ) → play_course (copies_of s.script) (player_state s).apid store ≡ (rest_work (nothing_read (player_state s).apid s.script)).course store
  course store = let same = numbers store in λ i. record (play_course (copies_of s.script) (player_state s).apid store) { after = to_report (play_report (same i)) }

-- ---- the walk over a played store

-- good packets, one after the other, are walked
pub walk_from-packets : (chosen : Option ℕ) (taken offset : ℕ) (packets : List Packet) → All (IsGood chosen) packets → taken + length packets ≤ 2 ^ 32
    → walk_from chosen taken offset (packets_bytes packets) ≡ record { packets = packets; rest = []; ending = None }
walk_from-packets chosen taken offset [] all few = walk_from-none chosen taken offset
walk_from-packets chosen taken offset (p ∷ packets) all few =
    let here : IsGood chosen p = all 0 p (omega arith) in
    let more : All (IsGood chosen) packets = λ k d within. all (suc k) d (omega arith) in
    ap (walk_from chosen taken offset) (flat_map-cons packet_bytes p packets)
    ∙ (walk_from-good chosen taken offset p (packets_bytes packets) here (omega arith)
    ∙ ap (packet_first p) (walk_from-packets chosen (taken + 1) (offset + length (packet_bytes p)) packets more (omega arith)))

ending-full : (chosen : Option ℕ) (taken offset : ℕ) (bytes : List ℕ) → taken ≡ 2 ^ 32 → 0 < length bytes → (walk_from chosen taken offset bytes).ending ≡ Some fault.TooMany
ending-full chosen taken offset [] full some = absurd (omega (arith, some))
ending-full chosen taken offset (b ∷ bytes) full some = ap (λ (w : Walk). w.ending) (walk_from-too_many chosen taken offset b bytes full)

-- good packets, one after the other, are too many if they are more than may be walked
pub walk_from-many : (chosen : Option ℕ) (taken offset : ℕ) (packets : List Packet) → All (IsGood chosen) packets → taken ≤ 2 ^ 32 → 2 ^ 32 < taken + length packets
    → (walk_from chosen taken offset (packets_bytes packets)).ending ≡ Some fault.TooMany
walk_from-many chosen taken offset [] all most many = absurd (omega (arith, most, many))
walk_from-many chosen taken offset (p ∷ packets) all most many =
    ap (λ bytes. (walk_from chosen taken offset bytes).ending) (flat_map-cons packet_bytes p packets)
    ∙ by_place (cases_lt taken (2 ^ 32)) (λ less. walk_from-many chosen (taken + 1) (offset + length (packet_bytes p)) packets more (omega (arith, less)) (omega (arith, many)))
  where
    here : IsGood chosen p
    here = all 0 p (omega arith)

    more : All (IsGood chosen) packets
    more = λ k d within. all (suc k) d (omega arith)

    by_place : (taken < 2 ^ 32) ⊎ (2 ^ 32 ≤ taken) → (taken < 2 ^ 32 → (walk_from chosen (taken + 1) (offset + length (packet_bytes p)) (packets_bytes packets)).ending ≡ Some fault.TooMany)
        → (walk_from chosen taken offset (packet_bytes p ++ packets_bytes packets)).ending ≡ Some fault.TooMany
    by_place (inl less) later = ap (λ (w : Walk). w.ending) (walk_from-good chosen taken offset p (packets_bytes packets) here less) ∙ later less
    by_place (inr full) later = ending-full chosen taken offset (packet_bytes p ++ packets_bytes packets) (omega (arith, most, full)) (omega arith)

-- what arrives of good packets is good
pub good_played : (chosen : Option ℕ) (copies : ℕ → ℕ) (t : ℕ) (packets : List Packet) → All (IsGood chosen) packets → All (IsGood chosen) (played_from chosen copies t packets)
good_played chosen copies t [] all = all
good_played chosen copies t (p ∷ packets) all =
    let here : IsGood chosen p = all 0 p (omega arith) in
    let more : All (IsGood chosen) packets = λ k d within. all (suc k) d (omega arith) in
    All-append (IsGood chosen) (replicate (times_of (is_chosen chosen p.header) copies t) p) (played_from chosen copies (place_after (is_chosen chosen p.header) t) packets)
    (All-replicate (IsGood chosen) (times_of (is_chosen chosen p.header) copies t) p here)
    (good_played chosen copies (place_after (is_chosen chosen p.header) t) packets more)
