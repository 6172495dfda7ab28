-- What is owed for the rest of a store of several streams, packet by packet; without a chosen APID no packet has a wrong shape.
use Rattle.std.proofs.Common.{◌≡◌, ℕ, List, [], ◌∷◌, ◌++◌, Option, None, refl, sym, ap, ◌∙◌, subst, arith, append-nil, append_assoc, length-append, zero, suc, ◌+◌, ◌^◌, ◌==◌, Bool, true, false, if◌then◌else◌, length, Some}
use Rattle.desk_ports.specs.Courses.{Work, to_report, work_on, Ends}
use Rattle.desk_ports.specs.Meanings.{Meanings}
use Rattle.desk_ports.specs.Turns.{Steps}
use Rattle.desk_ports.proofs.Steps.{GoesOn, IsDone}
use Rattle.side_tables.specs.declared.rows.StreamRow.{StreamRow}
use Rattle.packet_store.specs.SpacePackets.{Packet, packet_bytes}
use Rattle.packet_store.specs.StoreReader.{ReaderState, TakesPacket, walk_over}
use Rattle.packet_store.specs.Walks.{IsGood, Front, End, Good, Bad, Walk, at_limit, by_checks, by_front, front, walk, walk_by, walk_from}
use Rattle.packet_store.specs.declared.fault.StoreKind.TheVariants as kind
use Rattle.packet_store.specs.declared.fault.WalkFault.{WalkFault}
use Rattle.packet_store.specs.declared.fault.WalkFault.TheVariants as fault
use Rattle.packet_store.specs.declared.reader.Taken.{Taken}
use Rattle.packet_store.proofs.StoreTurns.{packet_of}
use Rattle.multi_ground.specs.MultiOutputs.{last_rows, multi_header, multi_work, multi_course}
use Rattle.multi_ground.specs.MultiRun.{judged_after, multi_run, multi_run_from, written_count}
use Rattle.multi_ground.specs.Receiving.{HasRead, HasReceived, IsUnread, Owes, left_after, outputs_after}
use Rattle.multi_ground.specs.declared.receiving.MultiReceiving.{MultiReceiving}
use Rattle.multi_ground.proofs.MultiRuns.{outputs_of-cons}

-- ---- what is owed for the rest of a store of several streams, packet by packet

-- a packet: what is written of it is owed, and after it what the packets after it owe
pub GoesOn-next : (streams : List StreamRow) (packets : List Packet) (p : Packet) → GoesOn (left_after streams packets) (left_after streams (packets ++ p ∷ [])) p (outputs_after streams packets p)
GoesOn-next streams packets p = record {
  before = λ more. outputs_of-cons (judged_after streams packets p) (multi_run_from streams (packets ++ p ∷ []) more);
  answer = λ more. ap (λ l. written_count (multi_run streams l)) (sym (append_assoc packets (p ∷ []) more));
  after = λ more. ap (λ l. to_report (last_rows streams l)) (sym (append_assoc packets (p ∷ []) more));
}

-- if nothing is left, the last rows are owed
pub IsDone-received : (s : MultiReceiving) (packets : List Packet) → HasReceived s packets → IsDone (left_after s.streams packets) (to_report (last_rows s.streams packets)) s.written
IsDone-received s packets has = record {
  nothing = refl;
  last_is = ap (λ l. to_report (last_rows s.streams l)) (append-nil packets);
  answer_is = ap (λ l. written_count (multi_run s.streams l)) (append-nil packets) ∙ sym has.written;
}

-- what was received doesn't hang on the reader
pub received-read : (s : MultiReceiving) (reader : ReaderState) (packets : List Packet) → HasReceived s packets → HasReceived (record s { reader = reader }) packets
received-read s reader packets has = record { streams = has.streams; reckoned = has.reckoned; written = has.written; shapes = has.shapes; room = has.room; taken = has.taken }

-- the packet that was read
pub HasRead-taken : (s : MultiReceiving) (reader : ReaderState) (a b : Meanings) (given : Taken) (takes : TakesPacket s.reader reader a b given) → s.reader.chosen ≡ None → HasRead (record s { reader = reader }) (packet_of takes.header reader)
HasRead-taken s reader a b given takes none = record { good = subst (λ (chosen : Option ℕ). IsGood chosen (packet_of takes.header reader)) none takes.good; packet = takes.packet; body = refl }

-- after a packet the rest of the store is still owed
pub Owes-next : (s t : MultiReceiving) (reader : ReaderState) (a b : Meanings) (given : Taken) (work : Work ℕ WalkFault) (owes : Owes s work) (takes : TakesPacket s.reader reader a b given) → t.reader ≡ reader → t.streams ≡ s.streams
    → HasReceived t (owes.packets ++ packet_of takes.header reader ∷ []) → Owes t (work_on (left_after s.streams (owes.packets ++ packet_of takes.header reader ∷ [])) (walk_over reader))
Owes-next s t reader a b given work owes takes same streams has =
    let p = packet_of takes.header reader in
    record {
      packets = owes.packets ++ p ∷ [];
      received = has;
      few = omega (arith, owes.few, length-append owes.packets (p ∷ []), ap (λ (r : ReaderState). r.taken) takes.others, ap (λ (r : ReaderState). r.taken) same);
      live = ap (λ (r : ReaderState). r.live) (same ∙ takes.others) ∙ owes.live;
      chosen = ap (λ (r : ReaderState). r.chosen) (same ∙ takes.others) ∙ owes.chosen;
      work_is = λ i. work_on (left_after (sym streams i) (owes.packets ++ p ∷ [])) (walk_over (sym same i));
    }

-- ---- the whole store

-- what the streams of a store owe is owed from its first packet on, after the header
pub Steps-unread : (s : MultiReceiving) → IsUnread s → Steps (multi_work s.streams) (work_on (left_after s.streams []) (walk_over s.reader)) [] (to_report multi_header)
Steps-unread s is = subst (λ (r : ReaderState). Steps (multi_work s.streams) (work_on (left_after s.streams []) (walk_over r)) [] (to_report multi_header)) (sym is.reader) (record { course = λ store. refl; answer = λ store. refl })

pub Owes-unread : (s : MultiReceiving) → IsUnread s → Owes s (work_on (left_after s.streams []) (walk_over s.reader))
Owes-unread s is = record { packets = []; received = is.received; few = omega arith; live = ap (λ (r : ReaderState). r.live) is.reader; chosen = ap (λ (r : ReaderState). r.chosen) is.reader; work_is = refl }

-- ---- if no APID is chosen, no packet has a wrong shape

abbrev IsNoShape : Option WalkFault → Type 0
IsNoShape None = Unit {0}
IsNoShape (Some (fault.Bad byte kind.Cut)) = Unit {0}
IsNoShape (Some (fault.Bad byte kind.Version)) = Unit {0}
IsNoShape (Some (fault.Bad byte kind.Shape)) = ⊥
IsNoShape (Some fault.TooMany) = Unit {0}

abbrev HasNoShape : Front → Type 0
HasNoShape End = Unit {0}
HasNoShape (Good p rest) = Unit {0}
HasNoShape (Bad kind.Cut) = Unit {0}
HasNoShape (Bad kind.Version) = Unit {0}
HasNoShape (Bad kind.Shape) = ⊥

checked : (version long : Bool) (p : Packet) (rest : List ℕ) → HasNoShape (by_checks version false long (Good p rest))
checked false long p rest = tt
checked true false p rest = tt
checked true true p rest = tt

front_checked : (bytes : List ℕ) → HasNoShape (front None bytes)
front_checked [] = tt
front_checked (a ∷ []) = tt
front_checked (a ∷ b ∷ []) = tt
front_checked (a ∷ b ∷ c ∷ []) = tt
front_checked (a ∷ b ∷ c ∷ d ∷ []) = tt
front_checked (a ∷ b ∷ c ∷ d ∷ e ∷ []) = tt
front_checked (a ∷ b ∷ c ∷ d ∷ e ∷ f ∷ bytes) = checked _ _ _ _

limit_checked : (bytes : List ℕ) → IsNoShape (at_limit bytes).ending
limit_checked [] = tt
limit_checked (b ∷ bytes) = tt

module _ (on : Packet → List ℕ → Walk) (each : (p : Packet) (rest : List ℕ) → IsNoShape (on p rest).ending) (offset : ℕ) (bytes : List ℕ) where
  found_checked : (found : Front) → HasNoShape found → IsNoShape (by_front on offset bytes found).ending
  found_checked End none = tt
  found_checked (Good p rest) none = each p rest
  found_checked (Bad kind.Cut) none = tt
  found_checked (Bad kind.Version) none = tt
  found_checked (Bad kind.Shape) none = absurd none

  step_checked : (full : Bool) → IsNoShape (if full then at_limit bytes else by_front on offset bytes (front None bytes)).ending
  step_checked true = limit_checked bytes
  step_checked false = found_checked (front None bytes) (front_checked bytes)

steps_checked : (steps taken offset : ℕ) (bytes : List ℕ) → IsNoShape (walk_by steps None taken offset bytes).ending
unfolding walk_by
steps_checked zero taken offset bytes = tt
steps_checked (suc steps) taken offset bytes =
    step_checked (λ p rest. walk_by steps None (taken + 1) (offset + length (packet_bytes p)) rest) (λ p rest. steps_checked steps (taken + 1) (offset + length (packet_bytes p)) rest) offset bytes (taken == 2 ^ 32)

walk_checked : (bytes : List ℕ) → IsNoShape (walk None bytes).ending
unfolding walk_from
walk_checked bytes = steps_checked (length bytes) 0 0 bytes

-- so no run ends for it
pub no_shape : (streams : List StreamRow) (a b : Meanings) (byte : ℕ) → Ends (multi_course streams) a b (Some (fault.Bad byte kind.Shape)) → ⊥
no_shape streams a b byte ends = subst IsNoShape ends.ends (walk_checked ends.input)
