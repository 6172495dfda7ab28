-- Compressing, packet by packet: what is owed for the rest of a recording, and the store of a history.
use Rattle.std.specs.Io.KnownBytes.{IsAtEnd}
use Rattle.std.specs.List.{range_with_len, enumerate_from}
use Rattle.std.specs.Prelude.{All, unwrap_or}
use Rattle.std.proofs.Common.{◌≡◌, ℕ, ◌+◌, Bool, List, [], ◌++◌, ap, ◌∙◌, length-append, ◌%◌, ◌∷◌, length, refl, sym, subst, append_assoc, append-nil, arith, ◌<◌, ◌≤◌, map, Option, Some, None}
use Rattle.std.proofs.lemmas.List.{get_or_default, flat_map_more}
use Rattle.std.proofs.lemmas.List.FromFn.{length-map-range_with_len, get_or-map-range_with_len, map-range_with_len_more}
use Rattle.bit_vectors.specs.Vectors.{vector_bytes, padded}
use Rattle.bit_vectors.specs.declared.flags.Flags.{Flags}
use Rattle.bit_vectors.proofs.Lists.{map_same}
use Rattle.bit_vectors.proofs.NumberBits.{length-vector_bytes, AreBytes-vector_bytes, bits_of_injective, bits_of-vector_bytes}
use Rattle.desk_ports.specs.Courses.{Work, to_output, AfterStop, work_on, course_on}
use Rattle.desk_ports.specs.Meanings.{Meanings, Moves, left, Stop, Data, ReadFault, WriteFault}
use Rattle.desk_ports.specs.declared.desk.Inlet.TheVariants as inlet
use Rattle.desk_ports.specs.declared.desk.Outlet.TheVariants as outlet
use Rattle.desk_ports.proofs.Courses.{to_outlet-append}
use Rattle.desk_ports.proofs.Steps.{AfterWalk, IsOver, TakesItem, AfterStop-on, GoesOn, IsDone}
use Rattle.mask_update.specs.Histories.{History, step_of, with_step, IsValid, Step, flags_after, history_of}
use Rattle.mask_update.proofs.StepByStep.{length-history_of, history_of-push, mask_at-zero}
use Rattle.side_tables.specs.Rows.{flags_of, robust_of}
use Rattle.packet_store.specs.SpacePackets.{period, space_packet, IsPacket, plain_packet, store_bytes}
use Rattle.packet_store.specs.Walks.{walk}
use Rattle.packet_store.proofs.Walks.{walk-store_bytes}
use Rattle.packet_encode.specs.Encoder.{StandsFor}
use Rattle.packet_encode.specs.Forms.{with_next_input, Form, Content, Whole, Part, change_bits, data_bits, form_bits, form_at}
use Rattle.packet_encode.proofs.Deliveries.{packet_at-before}
use Rattle.packet_encode.proofs.Packets.{form_bits-is, form_at-most, places_most}
use Rattle.flight_chain.specs.Compressing.{data_at, Compression, further_packets, history_by, HasTaken, left_to_compress, next_packet, required_robustness, rest_work, with_packet, numbered_data, store_of, compress_course, compression_of, HasTakenNothing, IsCompressing, Owes, compress_work}
use Rattle.flight_chain.specs.Reading.{TakesInput, AfterUnread}
use Rattle.flight_chain.specs.Recordings.{RecordingWalk, recording_walk_from, walk_over, recording_walk}
use Rattle.flight_chain.specs.declared.compressing.Compressing.{Compressing}
use Rattle.flight_chain.specs.declared.fault.RecordFault.{RecordFault}
use Rattle.flight_chain.proofs.Recordings.{recording_walk_from-none}

-- ---- what a reading of a recording tells of the walk over it

-- a packet that was not read ends the walk
pub AfterWalk-recording : (f t : ℕ) (before : List ℕ) (a b : Meanings) (reason : Stop RecordFault) → AfterUnread f t before a b reason → AfterWalk (walk_over f t before) a b reason
AfterWalk-recording f t before a b (Data fault) stops =
    record { taken = stops.taken; rest = stops.rest; moved = stops.moved; told = stops.told; items = ap (λ (w : RecordingWalk). w.inputs) stops.ends; ending = ap (λ (w : RecordingWalk). w.ending) stops.ends }
AfterWalk-recording f t before a b ReadFault waits = record { taken = waits.taken; moved = waits.moved; items = waits.none }
AfterWalk-recording f t before a b WriteFault none = none

-- the input of a packet is the next one of the walk
pub TakesItem-recording : {f t : ℕ} {before after : List ℕ} {a b : Meanings} {input : List Bool} → TakesInput f t before after a b input → TakesItem (walk_over f t before) (walk_over f (t + 1) after) a b input
TakesItem-recording takes = record { taken = takes.taken; moved = takes.moved; items = λ rest. ap (λ (w : RecordingWalk). w.inputs) (takes.goes_on rest); ending = λ rest. ap (λ (w : RecordingWalk). w.ending) (takes.goes_on rest) }

-- nothing is left of the recording
pub IsOver-recording : (f t : ℕ) {ahead : List ℕ} {a b : Meanings} → ahead ≡ [] → Moves a b inlet.Main [] → IsAtEnd (left a inlet.Main) → IsOver (walk_over f t ahead) a b
IsOver-recording f t none moved at_end =
    let walk = ap (λ l. recording_walk_from f t (l ++ [])) none ∙ recording_walk_from-none f t in
    record { items = ap (λ (w : RecordingWalk). w.inputs) walk; ending = ap (λ (w : RecordingWalk). w.ending) walk; moved = moved; at_end = at_end }

-- ---- what is owed for the rest of a recording, packet by packet

length-push : (inputs : List (List Bool)) (input : List Bool) → length (inputs ++ input ∷ []) ≡ length inputs + 1
length-push inputs input = omega (arith, length-append inputs (input ∷ []))

-- its Space Packet is owed for an input, and the rest is left to do after one more
pub GoesOn-compress : (k : Compression) (inputs : List (List Bool)) (input : List Bool) → GoesOn (left_to_compress k inputs) (left_to_compress k (inputs ++ input ∷ [])) input (to_output (next_packet k inputs input))
GoesOn-compress k inputs input = record {
  before = λ more. to_outlet-append outlet.Main (next_packet k inputs input) (further_packets k (inputs ++ input ∷ []) more);
  answer = λ more. ap length (sym (append_assoc inputs (input ∷ []) more));
  after = λ more. refl;
}

-- after the last input nothing more is owed
pub IsDone-compress : (k : Compression) (inputs : List (List Bool)) (n : ℕ) → n ≡ length inputs → IsDone (left_to_compress k inputs) [] n
IsDone-compress k inputs n number = record { nothing = refl; last_is = refl; answer_is = ap length (append-nil inputs) ∙ sym number }

-- the history of one more input
history_by-push : (k : Compression) (inputs : List (List Bool)) (input : List Bool) (t : ℕ) → t ≡ length inputs
    → with_next_input (history_by k inputs) (required_robustness k.rows.robust k.robust t) input (flags_of k.rows.flags t) ≡ history_by k (inputs ++ input ∷ [])
history_by-push k inputs input t is =
    let flags = flags_of k.rows.flags in
    let robust = required_robustness k.rows.robust k.robust in
    let steps = length-history_of inputs flags robust k.places k.mask in
    ap (λ (n : ℕ). with_step (history_by k inputs) (step_of (λ _. flags n) (λ _. robust n) (length (history_by k inputs).steps, input))) is
    ∙ (ap (λ (n : ℕ). with_step (history_by k inputs) (step_of (λ _. flags (length inputs)) (λ _. robust (length inputs)) (n, input))) steps
    ∙ sym (history_of-push inputs flags robust k.places k.mask input))

-- so many inputs are taken
pub HasTaken-number : (k : Compression) (inputs : List (List Bool)) (s : Compressing) → HasTaken k inputs s → s.encoder.masks.taken ≡ length inputs
HasTaken-number k inputs s taken = taken.stands.masks.taken ∙ length-history_of inputs (flags_of k.rows.flags) (required_robustness k.rows.robust k.robust) k.places k.mask

-- a packet that was not read ends the run
pub AfterStop-next : (k : Compression) (inputs : List (List Bool)) (s : Compressing) (f t : ℕ) (before : List ℕ) (a b : Meanings) (work : Work ℕ RecordFault) (reason : Stop RecordFault) → HasTaken k inputs s → length s.encoder.masks.mask ≡ f → t ≡ s.encoder.masks.taken
    → work ≡ rest_work k inputs before → AfterUnread f t before a b reason → AfterStop work.course a b reason
AfterStop-next k inputs s f t before a b work reason taken places number is after =
    let f_is = sym places ∙ taken.places in
    let t_is = number ∙ HasTaken-number k inputs s taken in
    let here = subst (λ (n : ℕ). AfterUnread k.places n before a b reason) t_is (subst (λ (n : ℕ). AfterUnread n t before a b reason) f_is after) in
    AfterStop-on (left_to_compress k inputs) (walk_over k.places (length inputs) before) work a b reason is refl (AfterWalk-recording k.places (length inputs) before a b reason here)

module _ (k : Compression) (inputs : List (List Bool)) (s : Compressing) (taken : HasTaken k inputs s) (t : ℕ) (number : t ≡ length inputs) (input : List Bool) where
  -- the history with the next input
  next_history : with_packet (history_by k inputs) s input t ≡ history_by k (inputs ++ input ∷ [])
  next_history =
      let robust = taken.robust in
      let rows = taken.rows in
      (λ i. with_next_input (history_by k inputs) (required_robustness (rows i).robust (robust i) t) input (flags_of (rows i).flags t)) ∙ history_by-push k inputs input t number

  -- the Space Packet of the next input
  pub next_packet-is : space_packet s.writer.apid (t % period) (data_at (with_packet (history_by k inputs) s input t) (length (history_by k inputs).steps)) ≡ next_packet k inputs input
  next_packet-is =
      let apid = taken.apid in
      let steps = length-history_of inputs (flags_of k.rows.flags) (required_robustness k.rows.robust k.robust) k.places k.mask in
      λ i. space_packet (apid i) (number i % period) (data_at (next_history i) (steps i))

  -- and it is taken
  pub HasTaken-next : (new : Compressing) → StandsFor (with_packet (history_by k inputs) s input t) new.encoder
      → length new.encoder.masks.mask ≡ length s.encoder.masks.mask → new.robust ≡ s.robust → new.writer.apid ≡ s.writer.apid → new.plan ≡ s.plan → HasTaken k (inputs ++ input ∷ []) new
  HasTaken-next new stands places robust apid rows = record {
    stands = subst (λ (h : History). StandsFor h new.encoder) next_history stands;
    places = places ∙ taken.places;
    robust = robust ∙ taken.robust;
    apid = apid ∙ taken.apid;
    rows = rows ∙ taken.rows;
  }

-- reading changes none of the inputs that are taken
pub HasTaken-read : (k : Compression) (inputs : List (List Bool)) (s : Compressing) (ahead : List ℕ) (input : List Bool) → HasTaken k inputs s → HasTaken k inputs (record { encoder = s.encoder; plan = s.plan; robust = s.robust; writer = s.writer; ahead = ahead; input = input; pen = s.pen })
HasTaken-read k inputs s ahead input taken = record { stands = taken.stands; places = taken.places; robust = taken.robust; apid = taken.apid; rows = taken.rows }

-- the next packet was read, and its number is t
abbrev pub IsNext : (k : Compression) (inputs : List (List Bool)) (t : ℕ) (before after : List ℕ) (a b : Meanings) (input : List Bool) → Type 0
IsNext k inputs t before after a b input = (length inputs ≡ t) × TakesItem (walk_over k.places (length inputs) before) (walk_over k.places (length inputs + 1) after) a b input

pub IsNext-read : (k : Compression) (inputs : List (List Bool)) (s : Compressing) (f t' t : ℕ) (before after : List ℕ) (a b : Meanings) (input : List Bool) → HasTaken k inputs s → length s.encoder.masks.mask ≡ f → t' ≡ s.encoder.masks.taken → t ≡ t'
    → TakesInput f t' before after a b input → IsNext k inputs t before after a b input
IsNext-read k inputs s f t' t before after a b input taken places kept number takes =
    let f_is = sym places ∙ taken.places in
    let t_is = kept ∙ HasTaken-number k inputs s taken in
    (sym (number ∙ t_is), TakesItem-recording (subst (λ (n : ℕ). TakesInput k.places n before after a b input) t_is (subst (λ (n : ℕ). TakesInput n t' before after a b input) f_is takes)))

-- after it the rest of the recording is left to do
pub rest_work-next : (k : Compression) (inputs : List (List Bool)) (input : List Bool) (after ahead : List ℕ) → ahead ≡ after → work_on (left_to_compress k (inputs ++ input ∷ [])) (walk_over k.places (length inputs + 1) after) ≡ rest_work k (inputs ++ input ∷ []) ahead
rest_work-next k inputs input after ahead is = λ i. work_on (left_to_compress k (inputs ++ input ∷ [])) (walk_over k.places (sym (length-push inputs input) i) (sym is i))

-- ---- the store of a history is one of good Space Packets

some_data : (sent : Option (List Bool)) (content : Content) → 0 < length (data_bits sent content)
some_data None (Whole content) = omega arith
some_data None (Part content) = omega arith
some_data (Some mask) content = omega arith

-- every packet has bits
some_bits : (form : Form) → 0 < length (form_bits form)
some_bits form =
    omega (arith, ap length (form_bits-is form), length-append (change_bits form) (data_bits form.sent form.content), some_data form.sent form.content)

-- the packet of a step is that of a Space Packet
pub IsPacket-at : (h : History) (apid t : ℕ) → IsValid h → apid ≤ 2046 → t < length h.steps → IsPacket apid (numbered_data h t).0 (numbered_data h t).1
IsPacket-at h apid t valid chosen lt =
    let bits = form_bits (form_at h t) in
    let size = length-vector_bytes (form_bits (form_at h t)) in
    record {
      chosen = chosen;
      counted = omega arith;
      some = omega (arith, size, some_bits (form_at h t));
      most = omega (arith, size, form_at-most h t valid lt, places_most h valid);
      bytes = λ k d within. subst (λ n. n < 256) (get_or_default (vector_bytes bits) k 0 d within) (AreBytes-vector_bytes bits k);
    }

packets_at : (h : History) (apid : ℕ) → IsValid h → apid ≤ 2046 → All (λ p. IsPacket apid p.0 p.1) (map (numbered_data h) (range_with_len 0 (length h.steps)))
packets_at h apid valid chosen k d within =
    let lt : k < length h.steps = omega (arith, length-map-range_with_len (numbered_data h) 0 (length h.steps)) in
    subst (λ (p : ℕ × List ℕ). IsPacket apid p.0 p.1) (sym (get_or-map-range_with_len (numbered_data h) 0 (length h.steps) k k d lt (omega arith))) (IsPacket-at h apid k valid chosen lt)

-- the walk over the store has its packets, and is whole
pub walk-store_of : (chosen : Option ℕ) (h : History) (apid : ℕ) → IsValid h → apid ≤ 2046
    → walk chosen (store_of h apid) ≡ record { packets = map (λ p. plain_packet apid p.0 p.1) (map (numbered_data h) (range_with_len 0 (length h.steps))); rest = []; ending = None }
walk-store_of chosen h apid valid few =
    walk-store_bytes chosen apid (map (numbered_data h) (range_with_len 0 (length h.steps))) (packets_at h apid valid few)
    (omega (arith, length-map-range_with_len (numbered_data h) 0 (length h.steps), valid.most))

-- ---- the store of a history, packet by packet

-- bits that are the same in whole bytes have the same bytes
vector_bytes-same : (a b : List Bool) → padded a ≡ padded b → vector_bytes a ≡ vector_bytes b
vector_bytes-same a b same = bits_of_injective (vector_bytes a) (vector_bytes b) (AreBytes-vector_bytes a) (AreBytes-vector_bytes b) (bits_of-vector_bytes a ∙ (same ∙ sym (bits_of-vector_bytes b)))

-- later steps leave the bytes of a packet
data_at-before : (h : History) (step : Step) (t : ℕ) → t < length h.steps → data_at (with_step h step) t ≡ data_at h t
data_at-before h step t lt = vector_bytes-same (form_bits (form_at (with_step h step) t)) (form_bits (form_at h t)) (packet_at-before h step t lt)

-- one more step is one more packet
pub store_of-push : (h : History) (step : Step) (apid : ℕ) → store_of (with_step h step) apid ≡ store_of h apid ++ space_packet apid (length h.steps % period) (data_at (with_step h step) (length h.steps))
store_of-push h step apid =
    let n = length h.steps in
    let all : length (h.steps ++ step ∷ []) ≡ n + 1 = omega (arith, length-append h.steps (step ∷ [])) in
    let first : n ≡ 0 + n = omega arith in
    let earlier : map (numbered_data (with_step h step)) (range_with_len 0 (length h.steps)) ≡ map (numbered_data h) (range_with_len 0 (length h.steps)) =
    map_same (numbered_data (with_step h step)) (numbered_data h) 0 (length h.steps) (λ k lt. ap (λ (bytes : List ℕ). (k % period, bytes)) (data_at-before h step k (omega arith))) in
    ap (λ (m : ℕ). store_bytes apid (map (numbered_data (with_step h step)) (range_with_len 0 m))) all
    ∙ (ap (store_bytes apid) (map-range_with_len_more (numbered_data (with_step h step)) 0 n n (omega arith))
    ∙ (ap (λ (packets : List (ℕ × List ℕ)). store_bytes apid (packets ++ numbered_data (with_step h step) n ∷ [])) earlier
    ∙ sym (flat_map_more (λ (p : ℕ × List ℕ). space_packet apid p.0 p.1) [] (map (numbered_data h) (range_with_len 0 n)) (numbered_data (with_step h step) n))))

-- the store of more inputs begins with that of the first ones
pub store_of-further : (k : Compression) (inputs more : List (List Bool)) → store_of (history_by k (inputs ++ more)) k.apid ≡ store_of (history_by k inputs) k.apid ++ further_packets k inputs more
store_of-further k inputs [] = ap (λ (l : List (List Bool)). store_of (history_by k l) k.apid) (append-nil inputs) ∙ sym (append-nil (store_of (history_by k inputs) k.apid))
store_of-further k inputs (input ∷ more) =
    let flags = flags_of k.rows.flags in
    let robust = required_robustness k.rows.robust k.robust in
    let push = history_of-push inputs flags robust k.places k.mask input in
    let one : store_of (history_by k (inputs ++ input ∷ [])) k.apid ≡ store_of (history_by k inputs) k.apid ++ next_packet k inputs input =
    ap (λ (h : History). store_of h k.apid) push
    ∙ (store_of-push (history_by k inputs) (step_of flags robust (length inputs, input)) k.apid
    ∙ ((λ i. store_of (history_by k inputs) k.apid ++ space_packet k.apid (length-history_of inputs flags robust k.places k.mask i % period) (data_at (with_step (history_by k inputs) (step_of flags robust (length inputs, input))) (length-history_of inputs flags robust k.places k.mask i)))
    ∙ ap (λ (h : History). store_of (history_by k inputs) k.apid ++ space_packet k.apid (length inputs % period) (data_at h (length inputs))) (sym push))) in
    ap (λ (l : List (List Bool)). store_of (history_by k l) k.apid) (sym (append_assoc inputs (input ∷ []) more))
    ∙ (store_of-further k (inputs ++ input ∷ []) more
    ∙ (ap (λ (l : List ℕ). l ++ further_packets k (inputs ++ input ∷ []) more) one
    ∙ append_assoc (store_of (history_by k inputs) k.apid) (next_packet k inputs input) (further_packets k (inputs ++ input ∷ []) more)))

-- a whole recording is owed from its first packet on
pub course_on-first : (k : Compression) (recording : List ℕ) → course_on (left_to_compress k []) (walk_over k.places 0 []) recording ≡ compress_course k recording
course_on-first k recording = ap (λ (output : List ℕ). record (compress_course k recording) { before = to_output output }) (sym (store_of-further k [] (recording_walk k.places recording).inputs))

-- ---- schedules that give no required robustness

same_steps : (inputs : List (List Bool)) (from : ℕ) (flags : ℕ → Flags) (a b : ℕ → ℕ) → ((t : ℕ) → t < from + length inputs → a t ≡ b t) → map (step_of flags a) (enumerate_from from inputs) ≡ map (step_of flags b) (enumerate_from from inputs)
same_steps [] from flags a b same = refl
same_steps (input ∷ inputs) from flags a b same =
    let first = same from (omega arith) in
    let rest = same_steps inputs (from + 1) flags a b (λ t lt. same t (omega arith)) in
    λ i. record { input = input; flags = flags_after (first i) from (flags from); robust = first i } ∷ rest i

-- the history has the robustness of the command
pub history_by-command : (k : Compression) (inputs : List (List Bool)) → ((t : ℕ) → t < length inputs → robust_of k.rows.robust t ≡ None)
    → history_by k inputs ≡ history_of inputs (flags_of k.rows.flags) (λ _. k.robust) k.places k.mask
history_by-command k inputs none =
    let flags = flags_of k.rows.flags in
    let steps = same_steps inputs 0 flags (required_robustness k.rows.robust k.robust) (λ _. k.robust) (λ t lt. ap (λ (o : Option ℕ). unwrap_or o k.robust) (none t (omega arith))) in
    λ i. record { places = k.places; first_mask = k.mask; steps = steps i }

-- ---- A flight that has read nothing

-- what is kept is what the flight was opened with
pub compression_of-none : (k : Compression) (s : Compressing) → length k.mask ≡ k.places → HasTaken k [] s → compression_of s ≡ k
compression_of-none k s places taken =
    let mask = taken.stands.masks.mask ∙ mask_at-zero (history_by k []) places in
    λ i. record { places = taken.places i; robust = taken.robust i; apid = taken.apid i; mask = mask i; rows = taken.rows i }

pub HasTakenNothing-opened : (k : Compression) (s : Compressing) → length k.mask ≡ k.places → IsCompressing s → s.ahead ≡ [] → HasTaken k [] s → HasTakenNothing s
HasTakenNothing-opened k s places right ahead taken = record { ahead = ahead; none = subst (λ (l : Compression). HasTaken l [] s) (sym (compression_of-none k s places taken)) taken; right = right }

-- the work of compressing a recording is owed when nothing is taken
pub Owes-unread : (s : Compressing) → HasTakenNothing s → Owes s (compress_work (compression_of s))
Owes-unread s unread = record {
  k = compression_of s;
  inputs = [];
  taken = unread.none;
  work_is = (λ i. record { course = λ recording. sym (course_on-first (compression_of s) recording) i; answer = λ recording. length (recording_walk (compression_of s).places recording).inputs }) ∙ ap (rest_work (compression_of s) []) (sym unread.ahead);
  right = unread.right;
}
