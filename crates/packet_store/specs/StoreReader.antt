-- A reader of a store: where it is, what a call of `next` does to it and to the desk, and why a store is not read on.
use Rattle.std.specs.Io.KnownBytes.{IsAtEnd}
use Rattle.std.specs.Prelude.{◌≡◌, ℕ, ◌+◌, ◌*◌, ◌^◌, ◌<◌, ◌≤◌, Bool, true, false, List, [], ◌++◌, length, take, drop, Option, Some, None, IfSome, Result, Ok, Err}
use Rattle.desk_ports.specs.Courses.{WalkOver}
use Rattle.desk_ports.specs.Meanings.{Meanings, Moves, left, Counts, FailsToRead, Stop}
use Rattle.desk_ports.specs.Meanings as stop
use Rattle.desk_ports.specs.declared.desk.Inlet.TheVariants as inlet
use Rattle.packet_store.specs.SpacePackets.{Packet, packet_bytes, is_chosen}
use Rattle.packet_store.specs.Walks.{IsGood, Walk, walk_from, packet_first, stopped_at, Front, End, Good, Bad, front}
use Rattle.packet_store.specs.declared.fault.RunFault.{RunFault}
use Rattle.packet_store.specs.declared.fault.RunFault.TheVariants as run
use Rattle.packet_store.specs.declared.fault.StoreFault.{StoreFault}
use Rattle.packet_store.specs.declared.fault.StoreFault.TheVariants.{Cut, Version, Shape, ReadFault, TooMany}
use Rattle.packet_store.specs.declared.fault.StoreKind.{StoreKind}
use Rattle.packet_store.specs.declared.fault.StoreKind.TheVariants as kind
use Rattle.packet_store.specs.declared.fault.WalkFault.{WalkFault}
use Rattle.packet_store.specs.declared.fault.WalkFault.TheVariants as fault
use Rattle.packet_store.specs.declared.header.Header.{Header}
use Rattle.packet_store.specs.declared.reader.Taken.{Taken}

-- ---- A reader of a store: where it is, and what a call of `next` does to it and to the desk

-- the chosen APID, the number of packets given so far and of their bytes, whether the reader goes on, the latest packet
-- with its data, both empty if the latest call gave none, and the bytes after it that were read ahead
pub record ReaderState : Type 0 where
  pub chosen : Option ℕ
  pub taken : ℕ
  pub offset : ℕ
  pub live : Bool
  pub packet : List ℕ
  pub body : List ℕ
  pub ahead : List ℕ

-- a reader that has given nothing
abbrev pub opened : Option ℕ → ReaderState
opened chosen = record { chosen = chosen; taken = 0; offset = 0; live = true; packet = []; body = []; ahead = [] }

-- the reader gave no packet, and is at its end; these bytes were read ahead
abbrev pub stopped : ReaderState → List ℕ → ReaderState
stopped s ahead = record s { live = false; packet = []; body = []; ahead = ahead }

-- the walk from where the reader is, over the bytes that are ahead and then these, which the desk has left
abbrev pub walk_on : ReaderState → List ℕ → Walk
walk_on s bytes = walk_from s.chosen s.taken s.offset (s.ahead ++ bytes)

-- its packets, and how it ends
abbrev pub walk_over : ReaderState → WalkOver Packet WalkFault
walk_over s = record { items = λ bytes. (walk_on s bytes).packets; ending = λ bytes. (walk_on s bytes).ending }

-- Some bytes were read after those that were ahead, and nothing else happened to the desk. One packet of the walk was
-- taken, which the reader keeps, and the walk goes on after it.
pub record TakesPacket (old new : ReaderState) (before after : Meanings) (given : Taken) : Type 0 where
  pub header : Header
  pub good : IsGood old.chosen (record { header = header; body = new.body })
  pub packet : new.packet ≡ packet_bytes (record { header = header; body = new.body })
  pub taken : List ℕ
  pub moved : Moves before after inlet.Main taken
  pub joined : old.ahead ++ taken ≡ new.packet ++ new.ahead
  pub is_chosen : given.chosen ≡ is_chosen old.chosen header
  pub count : given.count ≡ header.count
  pub few : old.taken < 2 ^ 32
  pub others : new ≡ record old { taken = old.taken + 1; offset = old.offset + length new.packet; packet = new.packet; body = new.body; ahead = new.ahead }
  pub goes_on : (rest : List ℕ) → walk_on old (taken ++ rest) ≡ packet_first (record { header = header; body = new.body }) (walk_on new rest)

-- The walk ends with this fault: some bytes were read after those that were ahead, all of which stay there, and nothing
-- else happened.
pub record Stops (old : ReaderState) (ahead : List ℕ) (before after : Meanings) (reason : WalkFault) : Type 0 where
  pub taken : List ℕ
  pub rest : List ℕ
  pub moved : Moves before after inlet.Main taken
  pub kept : ahead ≡ old.ahead ++ taken
  pub told : IfSome (left after inlet.Main) (λ bytes. bytes ≡ rest)
  pub ends : walk_on old (taken ++ rest) ≡ stopped_at reason (ahead ++ rest)

-- nothing is wrong, or only that the bytes end
abbrev pub IsOnlyCut : Option WalkFault → Type 0
IsOnlyCut None = Unit {0}
IsOnlyCut (Some (fault.Bad byte kind.Cut)) = Unit {0}
IsOnlyCut (Some (fault.Bad byte kind.Version)) = ⊥
IsOnlyCut (Some (fault.Bad byte kind.Shape)) = ⊥
IsOnlyCut (Some fault.TooMany) = ⊥

-- A read failed: what was read before it comes after what was ahead, and nothing else happened. That is less than a
-- packet of the walk, and the only thing wrong in it is that it ends.
pub record Waits (old : ReaderState) (ahead : List ℕ) (before after : Meanings) : Type 0 where
  pub taken : List ℕ
  pub moved : Moves before after inlet.Main taken
  pub kept : ahead ≡ old.ahead ++ taken
  pub none : (walk_on old taken).packets ≡ []
  pub early : IsOnlyCut (walk_on old taken).ending

-- after a fault of the store or of the desk, with these bytes ahead
abbrev pub AfterFault : ReaderState → List ℕ → Meanings → Meanings → StoreFault → Type 0
AfterFault old ahead before after (Cut byte) = Stops old ahead before after (fault.Bad byte kind.Cut)
AfterFault old ahead before after (Version byte) = Stops old ahead before after (fault.Bad byte kind.Version)
AfterFault old ahead before after (Shape byte) = Stops old ahead before after (fault.Bad byte kind.Shape)
AfterFault old ahead before after TooMany = Stops old ahead before after fault.TooMany
AfterFault old ahead before after ReadFault = Waits old ahead before after

-- what a reader keeps: the latest packet, of the given length, comes before what is ahead
abbrev pub reader_state : Option ℕ → ℕ → ℕ → Bool → ℕ → List ℕ → ReaderState
reader_state chosen taken offset live held input = record {
  chosen = chosen;
  taken = taken;
  offset = offset;
  live = live;
  packet = take held input;
  body = drop 6 (take held input);
  ahead = drop held input;
}

-- the latest packet was read, and the numbers are within their limits
pub record IsReader (taken offset held input : ℕ) : Type 0 where
  pub few : taken ≤ 2 ^ 32
  pub short : offset ≤ taken * 65542
  pub within : held ≤ input

-- ---- why a store is not read on, and what the counts of the desk do then

-- the fault of a reader, as a reason to end a run
abbrev pub stop_of : StoreFault → Stop WalkFault
stop_of (Cut byte) = stop.Data (fault.Bad byte kind.Cut)
stop_of (Version byte) = stop.Data (fault.Bad byte kind.Version)
stop_of (Shape byte) = stop.Data (fault.Bad byte kind.Shape)
stop_of TooMany = stop.Data fault.TooMany
stop_of ReadFault = stop.ReadFault

-- and that of a run that reads a store and writes
abbrev pub stop_by : RunFault → Stop WalkFault
stop_by (run.Store fault) = stop_of fault
stop_by run.WriteFault = stop.WriteFault

-- after a call that reads a store: ReadFault comes only if a read failed, and otherwise both counts are as before
abbrev pub HasStoreCause : {T : Type 0} → Counts → Counts → Result T StoreFault → Type 0
HasStoreCause old new (Ok done) = new ≡ old
HasStoreCause old new (Err ReadFault) = FailsToRead old new
HasStoreCause old new (Err (Cut byte)) = new ≡ old
HasStoreCause old new (Err (Version byte)) = new ≡ old
HasStoreCause old new (Err (Shape byte)) = new ≡ old
HasStoreCause old new (Err TooMany) = new ≡ old

-- ---- one packet, as it is read

-- the packet with this header that is at the front of some bytes
abbrev pub front_packet : Header → List ℕ → Packet
front_packet h bytes = record { header = h; body = drop 6 (take (h.length + 7) bytes) }

-- a good packet is at the front of these bytes, whole
pub record BeginsWithPacket (chosen : Option ℕ) (bytes : List ℕ) : Type 0 where
  pub packet : Packet
  pub rest : List ℕ
  pub is : front chosen bytes ≡ Good packet rest

-- nothing is at the front, or the bytes only end too soon
abbrev pub IsEarly : Front → Type 0
IsEarly End = Unit {0}
IsEarly (Good p rest) = ⊥
IsEarly (Bad kind.Cut) = Unit {0}
IsEarly (Bad kind.Version) = ⊥
IsEarly (Bad kind.Shape) = ⊥

-- this is wrong with what is at the front of these bytes, whatever follows them
abbrev pub IsBad : Option ℕ → List ℕ → StoreKind → Type 0
IsBad chosen bytes why = (rest : List ℕ) → front chosen (bytes ++ rest) ≡ Bad why

-- no good packet is at this offset, if these bytes are ahead
abbrev pub AfterUnread : Option ℕ → ℕ → List ℕ → Meanings → StoreFault → Type 0
AfterUnread chosen offset ahead m (Cut byte) = (byte ≡ offset) × (front chosen ahead ≡ Bad kind.Cut) × IsAtEnd (left m inlet.Main)
AfterUnread chosen offset ahead m (Version byte) = (byte ≡ offset) × IsBad chosen ahead kind.Version
AfterUnread chosen offset ahead m (Shape byte) = (byte ≡ offset) × IsBad chosen ahead kind.Shape
AfterUnread chosen offset ahead m TooMany = ⊥
AfterUnread chosen offset ahead m ReadFault = IsEarly (front chosen ahead)
