-- What a reader of a store tells of the walk over it.
use Rattle.std.proofs.Common.{◌≡◌, ℕ, List, [], ◌++◌, ap, ◌∙◌}
use Rattle.std.specs.Io.KnownBytes.{IsAtEnd}
use Rattle.desk_ports.specs.declared.desk.Inlet.TheVariants as inlet
use Rattle.desk_ports.specs.Meanings.{Meanings, Moves, left}
use Rattle.desk_ports.proofs.Steps.{AfterWalk, IsOver, StopsAt, TakesItem}
use Rattle.packet_store.specs.declared.header.Header.{Header}
use Rattle.packet_store.specs.declared.reader.Taken.{Taken}
use Rattle.packet_store.specs.declared.fault.WalkFault.{WalkFault}
use Rattle.packet_store.specs.declared.fault.StoreFault.{StoreFault}
use Rattle.packet_store.specs.declared.fault.StoreFault.TheVariants.{Cut, Version, Shape, ReadFault, TooMany}
use Rattle.packet_store.specs.SpacePackets.{Packet}
use Rattle.packet_store.specs.Walks.{Walk, walk_from}
use Rattle.packet_store.specs.StoreReader.{stop_of, ReaderState, walk_over, TakesPacket, Stops, AfterFault}
use Rattle.packet_store.proofs.Walks.{walk_from-none}

StopsAt-store : {s : ReaderState} {ahead : List ℕ} {a b : Meanings} {reason : WalkFault} → Stops s ahead a b reason → StopsAt (walk_over s) a b reason
StopsAt-store stops = record { taken = stops.taken; rest = stops.rest; moved = stops.moved; told = stops.told; items = ap (λ (w : Walk). w.packets) stops.ends; ending = ap (λ (w : Walk). w.ending) stops.ends }

-- a fault of the store, or of the desk, ends its walk
pub AfterWalk-store : (s : ReaderState) (ahead : List ℕ) (a b : Meanings) (reason : StoreFault) → AfterFault s ahead a b reason → AfterWalk (walk_over s) a b (stop_of reason)
AfterWalk-store s ahead a b (Cut byte) stops = StopsAt-store stops
AfterWalk-store s ahead a b (Version byte) stops = StopsAt-store stops
AfterWalk-store s ahead a b (Shape byte) stops = StopsAt-store stops
AfterWalk-store s ahead a b TooMany stops = StopsAt-store stops
AfterWalk-store s ahead a b ReadFault waits = record { taken = waits.taken; moved = waits.moved; items = waits.none }

-- the packet that a reader gave
abbrev pub packet_of : Header → ReaderState → Packet
packet_of header reader = record { header = header; body = reader.body }

-- is the next one of the walk
pub TakesItem-store : {s t : ReaderState} {a b : Meanings} {given : Taken} (takes : TakesPacket s t a b given) → TakesItem (walk_over s) (walk_over t) a b (packet_of takes.header t)
TakesItem-store takes = record { taken = takes.taken; moved = takes.moved; items = λ rest. ap (λ (w : Walk). w.packets) (takes.goes_on rest); ending = λ rest. ap (λ (w : Walk). w.ending) (takes.goes_on rest) }

-- nothing is left of the store
pub IsOver-store : (s : ReaderState) {a b : Meanings} → s.ahead ≡ [] → Moves a b inlet.Main [] → IsAtEnd (left a inlet.Main) → IsOver (walk_over s) a b
IsOver-store s none moved at_end =
    let walk = ap (λ l. walk_from s.chosen s.taken s.offset (l ++ [])) none ∙ walk_from-none s.chosen s.taken s.offset in
    record { items = ap (λ (w : Walk). w.packets) walk; ending = ap (λ (w : Walk). w.ending) walk; moved = moved; at_end = at_end }
