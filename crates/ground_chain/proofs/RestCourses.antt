-- What is owed for the rest of a store, packet by packet, and what is written of arrivals, line by line.
use Rattle.std.specs.Fmt.{decimal}
use Rattle.std.specs.List.{filter, flat_map}
use Rattle.std.specs.Option.{option_eq}
use Rattle.std.proofs.Common.{◌≡◌, ℕ, ◌+◌, ◌≤◌, Bool, true, false, if◌then◌else◌, List, [], ◌∷◌, map, Option, refl, sym, ap, ◌∙◌, subst, arith, ◌++◌, append-nil, eqb, codes, Some, None, append_assoc}
use Rattle.bit_vectors.specs.Vectors.{vector_bytes}
use Rattle.bit_vectors.specs.declared.fault.BitFault.TheVariants.{Wrong, EndsEarly}
use Rattle.desk_ports.specs.Courses.{Outputs, Course, Work, to_report, written_first, texts_of, to_output}
use Rattle.desk_ports.specs.Meanings.{Meanings}
use Rattle.desk_ports.specs.Turns.{Steps}
use Rattle.desk_ports.specs.declared.desk.Outlet.TheVariants as outlet
use Rattle.desk_ports.proofs.Courses.{to_outlet-flat_map, bytes_for-around, bytes_for-first, bytes_for-last, bytes_for-other, bytes_for-own}
use Rattle.desk_ports.proofs.Steps.{GoesOn, IsDone}
use Rattle.packet_store.specs.SpacePackets.{Packet, is_chosen}
use Rattle.packet_store.specs.StoreReader.{ReaderState, TakesPacket}
use Rattle.packet_store.specs.declared.fault.WalkFault.{WalkFault}
use Rattle.packet_store.specs.declared.reader.Taken.{Taken}
use Rattle.packet_store.proofs.StoreTurns.{packet_of}
use Rattle.packet_decode.specs.State.{KnownVector, State, Decoding, latest_content, known_vector, known_number}
use Rattle.ground_chain.specs.Listing.{judged_lines, listing_course, listed_texts, front_line, kind_text, kind_vectors, known_with, latest_vectors, change_level, lost_line, shown_vectors, mask_line, mask_text, own_vectors, packet_vectors, vector_digits, vectors_text}
use Rattle.ground_chain.specs.Receiving.{all_numbers, left_to_receive, nothing_received, receiving_state, rest_work, store_course, IsUnread, Owes}
use Rattle.ground_chain.specs.Reception.{next_judged, Judges, next_run, AgreesWith}
use Rattle.ground_chain.specs.Report.{header_row, restored_of, added, Texts, all_parts, is_written_kind, content_bytes, known_bytes, written_bytes}
use Rattle.ground_chain.specs.Restoring.{arrival_of, arrivals_of, store_run, store_work, restore_course, restored_texts}
use Rattle.ground_chain.specs.Run.{Arrival, Judged}
use Rattle.ground_chain.specs.declared.receiving.Receiving.{Receiving}
use Rattle.ground_chain.specs.declared.restored.Restored.{Restored}
use Rattle.ground_chain.specs.declared.verdict.Kind.{Kind}
use Rattle.ground_chain.specs.declared.verdict.Kind.TheVariants.{Written, Repeat, Unsynced, Gap, Refused}
use Rattle.ground_chain.proofs.Reckonings.{none-added, added-none, added-judged, all_parts-judged, arrival_with}

-- ---- a packet

-- the packets of an APID, with one that is of it and with one that is not
abbrev filtered : Option ℕ → Packet → List Packet → Bool → List Arrival
filtered chosen p packets own = map arrival_of (if own then p ∷ filter (λ q. is_chosen chosen q.header) packets else filter (λ q. is_chosen chosen q.header) packets)

same_chosen : (old new : ReaderState) (a b : Meanings) (given : Taken) → TakesPacket old new a b given → old.chosen ≡ new.chosen
same_chosen old new a b given takes = sym (ap (λ (s : ReaderState). s.chosen) takes.others)

-- a packet of another APID changes nothing
pub arrivals-passed : (old new : ReaderState) (a b : Meanings) (given : Taken) (takes : TakesPacket old new a b given) → given.chosen ≡ false
    → (packets : List Packet) → arrivals_of old.chosen (packet_of takes.header new ∷ packets) ≡ arrivals_of new.chosen packets
arrivals-passed old new a b given takes other packets =
    ap (filtered old.chosen (packet_of takes.header new) packets) (sym takes.is_chosen ∙ other)
    ∙ ap (λ chosen. arrivals_of chosen packets) (same_chosen old new a b given takes)

-- so what is owed is what the packets after it owe
pub GoesOn-passed : {A : Type 0} (texts : Texts) (s : Receiving A) (reader : ReaderState) (a b : Meanings) (given : Taken) (takes : TakesPacket s.reader reader a b given) → given.chosen ≡ false
    → GoesOn (left_to_receive texts s) (left_to_receive texts (record s { reader = reader })) (packet_of takes.header reader) []
GoesOn-passed texts s reader a b given takes other =
    let arrivals = arrivals-passed s.reader reader a b given takes other in
    record {
      before = λ packets. ap (λ (l : List Arrival). all_parts texts (next_run s.judging l)) (arrivals packets);
      answer = λ packets. ap (λ (l : List Arrival). added s.judging.restored (restored_of (next_run s.judging l))) (arrivals packets);
      after = λ packets. ap (λ (l : List Arrival). texts.last (added s.judging.restored (restored_of (next_run s.judging l)))) (arrivals packets);
    }

-- a packet of the chosen APID is an arrival
pub arrivals-read : (old new : ReaderState) (a b : Meanings) (given : Taken) (takes : TakesPacket old new a b given) → given.chosen ≡ true
    → (packets : List Packet) → arrivals_of old.chosen (packet_of takes.header new ∷ packets) ≡ arrival_with given.count new.body ∷ arrivals_of new.chosen packets
arrivals-read old new a b given takes own packets =
    ap (filtered old.chosen (packet_of takes.header new) packets) (sym takes.is_chosen ∙ own)
    ∙ (let count = sym takes.count in let chosen = same_chosen old new a b given takes in λ i. arrival_with (count i) new.body ∷ arrivals_of (chosen i) packets)

numbers-read : {A : Type 0} (s t : Receiving A) (a b : Meanings) (given : Taken) (takes : TakesPacket s.reader t.reader a b given) → given.chosen ≡ true → Judges s.judging t.judging given.count t.reader.body
    → (packets : List Packet) → all_numbers s (packet_of takes.header t.reader ∷ packets) ≡ all_numbers t packets
numbers-read s t a b given takes own is packets =
    ap (λ (l : List Arrival). added s.judging.restored (restored_of (next_run s.judging l))) (arrivals-read s.reader t.reader a b given takes own packets) ∙ added-judged is (arrivals_of t.reader.chosen packets)

-- what is written of it is owed, and after it what the packets after it owe
pub GoesOn-judged : {A : Type 0} (texts : Texts) (s t : Receiving A) (a b : Meanings) (given : Taken) (takes : TakesPacket s.reader t.reader a b given) → given.chosen ≡ true → Judges s.judging t.judging given.count t.reader.body
    → GoesOn (left_to_receive texts s) (left_to_receive texts t) (packet_of takes.header t.reader) (texts.parts (next_judged s.judging.reception given.count t.reader.body))
GoesOn-judged texts s t a b given takes own is =
    let arrivals = arrivals-read s.reader t.reader a b given takes own in
    let numbers = numbers-read s t a b given takes own is in
    record {
      before = λ packets. ap (λ (l : List Arrival). all_parts texts (next_run s.judging l)) (arrivals packets) ∙ all_parts-judged is texts (arrivals_of t.reader.chosen packets);
      answer = numbers;
      after = λ packets. ap texts.last (numbers packets);
    }

-- if nothing is left, the last part of the numbers so far is owed
pub IsDone-received : {A : Type 0} (texts : Texts) (s : Receiving A) → IsDone (left_to_receive texts s) (texts.last s.judging.restored) s.judging.restored
IsDone-received texts s = record { nothing = refl; last_is = ap texts.last (added-none s.judging.restored); answer_is = added-none s.judging.restored }

-- after a packet the rest of the store is still to be received
pub Owes-next : {A : Type 0} (texts : Texts) (s t : Receiving A) (a b : Meanings) (given : Taken) (work : Work Restored WalkFault) → Owes texts s work → TakesPacket s.reader t.reader a b given → t.judging.restored.packets ≤ s.judging.restored.packets + 1 → Owes texts t (rest_work texts t)
Owes-next texts s t a b given work owes takes more = record {
  work_is = refl;
  live = ap (λ (r : ReaderState). r.live) takes.others ∙ owes.live;
  packets = omega (arith, owes.packets, more, ap (λ (r : ReaderState). r.taken) takes.others);
}

-- ---- the whole store

-- what a store owes an account is owed from its first packet on
Steps-none : {A : Type 0} (texts : Texts) (s : Receiving A) (f apid : ℕ) (course : List ℕ → Course WalkFault) (first : Outputs) → ((store : List ℕ) → course store ≡ written_first first (store_course texts f apid store))
    → Steps (store_work course f apid) (rest_work texts (nothing_received {A = A} f apid)) [] first
Steps-none {A = A} texts s f apid course first same = record { course = course_is; answer = numbers } where
  numbers : (store : List ℕ) → restored_of (store_run f apid store) ≡ (rest_work texts (nothing_received {A = A} f apid)).answer store
  numbers store = sym (none-added (restored_of (store_run f apid store)))

  course_is : (store : List ℕ) → course store ≡ written_first first ((rest_work texts (nothing_received {A = A} f apid)).course store)
  course_is store = let counted = numbers store in same store ∙ λ i. written_first first (record (store_course texts f apid store) { after = texts.last (counted i) })

-- and so it is of a receiving that has read nothing
pub Steps-unread : {A : Type 0} (texts : Texts) (s : Receiving A) (course : List ℕ → Course WalkFault) (first : Outputs) → IsUnread s → ((store : List ℕ) → course store ≡ written_first first (store_course texts (receiving_state s).places (receiving_state s).apid store))
    → Steps (store_work course (receiving_state s).places (receiving_state s).apid) (rest_work texts s) [] first
Steps-unread {A = A} texts s course first is same =
    let state = receiving_state s in
    subst (λ (r : Receiving A). Steps (store_work course (receiving_state s).places (receiving_state s).apid) (rest_work texts r) [] first) (sym is) (Steps-none texts s state.places state.apid course first same)

-- the report's first line stands before the rows
pub restore_course-is : (f apid : ℕ) (store : List ℕ) → restore_course f apid store ≡ written_first (to_report header_row) (store_course restored_texts f apid store)
restore_course-is f apid store = refl

-- the lines alone are owed
pub listing_course-is : (f apid : ℕ) (store : List ℕ) → listing_course f apid store ≡ store_course listed_texts f apid store
listing_course-is f apid store =
    let lines = to_outlet-flat_map outlet.Main judged_lines (store_run f apid store) in
    λ i. record (listing_course f apid store) { before = lines i }

-- nothing is read
pub Owes-unread : {A : Type 0} (texts : Texts) (s : Receiving A) → IsUnread s → Owes texts s (rest_work texts s)
Owes-unread {A = A} texts s is = record { work_is = refl; live = ap (λ (r : Receiving A). r.reader.live) is; packets = omega (arith, ap (λ (r : Receiving A). r.judging.restored.packets) is) }

-- ---- what is written of arrivals

pub kind_written : (k : Kind) → is_written_kind k ≡ true → k ≡ Written
kind_written Written is = refl
kind_written Repeat is = absurd cc
kind_written (Unsynced mask) is = absurd cc
kind_written (Gap level mask) is = absurd cc
kind_written (Refused fault) is = absurd cc

-- the content of a written packet is that of the latest one
pub content_written : (j : Judged) (decoder : Decoding) → is_written_kind j.verdict.kind ≡ true → AgreesWith decoder j → vector_bytes (latest_content decoder.places decoder.state) ≡ written_bytes j
content_written j decoder written shows =
    let packet = shows.written (kind_written j.verdict.kind written) in
    ap (λ (s : State). vector_bytes (latest_content decoder.places s)) shows.state
    ∙ (ap (λ (k : Option KnownVector). vector_bytes (known_vector decoder.places k)) packet.content
    ∙ (ap known_bytes (sym packet.content) ∙ ap (λ (b : Bool). if b then content_bytes j.after.state else []) (sym written)))

pub no_content : (j : Judged) → is_written_kind j.verdict.kind ≡ false → [] ≡ written_bytes j
no_content j other = ap (λ (b : Bool). if b then content_bytes j.after.state else []) (sym other)

-- the two texts of rows and contents, where each thing's rows are before its content, between the report's first line and its
-- last rows
pub texts-around : {X : Type 0} (rows content : X → List ℕ) (first last : List ℕ) (xs : List X)
    → texts_of ((to_report first ++ flat_map (λ x. to_report (rows x) ++ to_output (content x)) xs) ++ to_report last) ≡ record { output = flat_map content xs; report = first ++ flat_map rows xs ++ last }
texts-around {X = X} rows content first last xs =
    let part = λ (x : X). to_report (rows x) ++ to_output (content x) in
    let contents = bytes_for-around outlet.Main (to_report first) (to_report last) part content (λ x. bytes_for-last outlet.Main (rows x) (content x)) xs in
    let all_rows = bytes_for-around outlet.Report (to_report first) (to_report last) part rows (λ x. bytes_for-first outlet.Report (rows x) (content x)) xs in
    let output = contents ∙ ((λ i. (bytes_for-other outlet.Main first i ++ flat_map content xs) ++ bytes_for-other outlet.Main last i) ∙ append-nil (flat_map content xs)) in
    let report = all_rows ∙ λ i. (bytes_for-own outlet.Report first i ++ flat_map rows xs) ++ bytes_for-own outlet.Report last i in
    λ i. record { output = output i; report = report i }

-- the same without last rows
pub texts-before : {X : Type 0} (rows content : X → List ℕ) (first : List ℕ) (xs : List X)
    → texts_of (to_report first ++ flat_map (λ x. to_report (rows x) ++ to_output (content x)) xs) ≡ record { output = flat_map content xs; report = first ++ flat_map rows xs }
texts-before rows content first xs =
    ap texts_of (sym (append-nil (to_report first ++ flat_map (λ x. to_report (rows x) ++ to_output (content x)) xs)))
    ∙ (texts-around rows content first [] xs ∙ λ i. record { output = flat_map content xs; report = append-nil (first ++ flat_map rows xs) i })

-- ---- pieces

-- the vectors of a line, each with what stands after it
pub vectors_text-pieces : (recent : List Bool) (mask : Option (List Bool)) (content : List Bool)
    → (vector_digits recent ++ codes " ") ++ ((mask_text mask ++ codes " ") ++ (vector_digits content ++ codes "\n")) ≡ vectors_text recent mask content
vectors_text-pieces recent mask content =
    let x = vector_digits recent ++ codes " " in
    let m = mask_text mask in
    let i = vector_digits content in
    sym (append_assoc (x ++ m ++ codes " ") i (codes "\n") ∙ (ap (λ (l : List ℕ). l ++ (i ++ codes "\n")) (append_assoc x m (codes " ")) ∙ append_assoc x (m ++ codes " ") (i ++ codes "\n")))

-- another packet is the latest whose mask became known, or none
pub not_known : (t : ℕ) (part : Option KnownVector) → option_eq eqb (known_number part) (Some t) ≡ false → known_with t part ≡ None
not_known t None other = refl
not_known t (Some known) other = ap (λ (same : Bool). if same then Some known.vector else None) other

-- ---- lines

kind_text-level : (kind : Kind) (a b : ℕ) → (kind ≡ Written → a ≡ b) → kind_text kind a ≡ kind_text kind b
kind_text-level Written a b same = ap (kind_text Written) (same refl)
kind_text-level Repeat a b same = refl
kind_text-level (Unsynced false) a b same = refl
kind_text-level (Unsynced true) a b same = refl
kind_text-level (Gap reached false) a b same = refl
kind_text-level (Gap reached true) a b same = refl
kind_text-level (Refused (Wrong bit)) a b same = refl
kind_text-level (Refused (EndsEarly bit)) a b same = refl

-- the level of a written packet is the decoder's
shown_level : (judged : Judged) (decoder : Decoding) → AgreesWith decoder judged → judged.verdict.kind ≡ Written → decoder.level ≡ change_level judged.change
shown_level judged decoder shows written = let packet = shows.written written in packet.level ∙ ap change_level (sym packet.first)

-- the vectors come after the front
pub lines-are : (judged : Judged) (decoder : Decoding) → AgreesWith decoder judged → front_line judged.verdict decoder.level ++ own_vectors judged ≡ judged_lines judged
lines-are judged decoder shows =
    let lost = lost_line judged.verdict.lost in
    let number = decimal judged.verdict.t in
    let level = kind_text-level judged.verdict.kind decoder.level (change_level judged.change) (shown_level judged decoder shows) in
    append_assoc lost (number ++ kind_text judged.verdict.kind decoder.level) (own_vectors judged)
    ∙ ap (λ (l : List ℕ). lost ++ l) (append_assoc number (kind_text judged.verdict.kind decoder.level) (own_vectors judged))
    ∙ ap (λ (l : List ℕ). lost ++ (number ++ (l ++ own_vectors judged))) level

-- the vectors that the decoder has are those of the line
pub vectors-written : (judged : Judged) (decoder : Decoding) → judged.verdict.kind ≡ Written → AgreesWith decoder judged → latest_vectors judged.verdict.t decoder ≡ packet_vectors judged.change judged.verdict.t judged.after.state judged.after.state.content
vectors-written judged decoder written shows =
    let packet = shows.written written in
    let t = judged.verdict.t in
    ap (λ (s : State). vectors_text decoder.recent (known_with t s.mask) (latest_content decoder.places s)) shows.state
    ∙ ap (λ (k : Option KnownVector). vectors_text decoder.recent (known_with t judged.after.state.mask) (known_vector decoder.places k)) packet.content
    ∙ ap (λ (x : List Bool). vectors_text x (known_with t judged.after.state.mask) packet.known.vector) packet.recent
    ∙ sym (λ i. packet_vectors (packet.first i) t judged.after.state (packet.content i))

-- what the decoder has is what the line shows
pub shown-are : (judged : Judged) (decoder : Decoding) → AgreesWith decoder judged → shown_vectors judged.verdict decoder ≡ own_vectors judged
shown-are judged decoder shows = by_kind judged.verdict.kind refl
  where
    packet : List ℕ
    packet = packet_vectors judged.change judged.verdict.t judged.after.state judged.after.state.content

    same_mask : mask_line judged.verdict.t decoder.state.mask ≡ mask_line judged.verdict.t judged.after.state.mask
    same_mask = ap (λ (s : State). mask_line judged.verdict.t s.mask) shows.state

    by_kind : (kind : Kind) → judged.verdict.kind ≡ kind → kind_vectors kind (latest_vectors judged.verdict.t decoder) (mask_line judged.verdict.t decoder.state.mask) ≡ kind_vectors kind (packet_vectors judged.change judged.verdict.t judged.after.state judged.after.state.content) (mask_line judged.verdict.t judged.after.state.mask)
    by_kind Written is = vectors-written judged decoder is shows
    by_kind Repeat is = refl
    by_kind (Unsynced false) is = refl
    by_kind (Unsynced true) is = same_mask
    by_kind (Gap reached false) is = refl
    by_kind (Gap reached true) is = same_mask
    by_kind (Refused fault) is = refl
