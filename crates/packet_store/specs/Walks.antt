-- The walk over a store: its good packets in order, and how it ends.
use Rattle.std.specs.Prelude.{◌≡◌, ℕ, zero, suc, ◌+◌, ◌^◌, ◌<◌, Bool, true, false, ◌==◌, nat_le, if◌then◌else◌, List, [], ◌∷◌, length, take, drop, All, Option, Some, None}
use Rattle.std.specs.List.{flat_map}
use Rattle.packet_store.specs.declared.header.Header.{Header}
use Rattle.packet_store.specs.declared.fault.StoreKind.{StoreKind}
use Rattle.packet_store.specs.declared.fault.StoreKind.TheVariants as kind
use Rattle.packet_store.specs.declared.fault.WalkFault.{WalkFault}
use Rattle.packet_store.specs.declared.fault.WalkFault.TheVariants as fault
use Rattle.packet_store.specs.SpacePackets.{IsHeader, Packet, header_at, packet_bytes, is_misshapen}

-- A good packet: version 0, the length that its header says and, if it has the chosen APID, the one shape.
pub record IsGood (chosen : Option ℕ) (p : Packet) : Type 0 where
  pub fields : IsHeader p.header
  pub version : p.header.version ≡ 0
  pub shape : is_misshapen chosen p.header ≡ false
  pub whole : length p.body ≡ p.header.length + 1
  pub bytes : All (λ b. b < 256) p.body

-- what is at the front of some bytes: nothing, a good packet before the rest, or something else
pub data Front : Type 0 where
  End : Front
  Good : Packet → List ℕ → Front
  Bad : StoreKind → Front

-- The checks of a packet, of which the first that fails decides: it has version 0, it has no other shape if it has the
-- chosen APID, and its data are as long as it says.
abbrev pub by_checks : Bool → Bool → Bool → Front → Front
by_checks false misshapen long found = Bad kind.Version
by_checks true true long found = Bad kind.Shape
by_checks true false false found = Bad kind.Cut
by_checks true false true found = found

-- what a header and the bytes after it are
abbrev pub front_after : Option ℕ → Header → List ℕ → Front
front_after chosen h bytes =
    by_checks (h.version == 0) (is_misshapen chosen h) (nat_le (h.length + 1) (length bytes))
    (Good (record { header = h; body = take (h.length + 1) bytes }) (drop (h.length + 1) bytes))

abbrev pub front : Option ℕ → List ℕ → Front
front chosen [] = End
front chosen (a ∷ b ∷ c ∷ d ∷ e ∷ f ∷ bytes) = front_after chosen (header_at a b c d e f) bytes
front chosen (a ∷ bytes) = Bad kind.Cut

-- a walk: the good packets in order, the bytes after them, and why those are not walked, or none if nothing is left
pub record Walk : Type 0 where
  pub packets : List Packet
  pub rest : List ℕ
  pub ending : Option WalkFault

abbrev pub walked : Walk
walked = record { packets = []; rest = []; ending = None }

abbrev pub stopped_at : WalkFault → List ℕ → Walk
stopped_at reason bytes = record { packets = []; rest = bytes; ending = Some reason }

-- one good packet, and then a walk
abbrev pub packet_first : Packet → Walk → Walk
packet_first p walk = record walk { packets = p ∷ walk.packets }

-- no packet is walked after the 4,294,967,296th
abbrev pub at_limit : List ℕ → Walk
at_limit [] = walked
at_limit (b ∷ bytes) = stopped_at fault.TooMany (b ∷ bytes)

-- the walk over bytes, by what is at their front; the offset is that of their first byte
abbrev pub by_front : (Packet → List ℕ → Walk) → ℕ → List ℕ → Front → Walk
by_front on offset bytes End = walked
by_front on offset bytes (Good p rest) = packet_first p (on p rest)
by_front on offset bytes (Bad why) = stopped_at (fault.Bad offset why) bytes

-- one step of a walk, which goes on after a good packet
abbrev pub walk_step : Option ℕ → ℕ → ℕ → List ℕ → (Packet → List ℕ → Walk) → Walk
walk_step chosen taken offset bytes on =
    if taken == 2 ^ 32 then at_limit bytes else by_front on offset bytes (front chosen bytes)

-- the walk in at most the given number of steps
unfoldable pub walk_by : ℕ → Option ℕ → ℕ → ℕ → List ℕ → Walk
walk_by zero chosen taken offset bytes = walked
walk_by (suc steps) chosen taken offset bytes = walk_step chosen taken offset bytes (λ p rest. walk_by steps chosen (taken + 1) (offset + length (packet_bytes p)) rest)

-- The walk over the rest of a store, for a chosen APID or none, after the given number of packets; the offset is that
-- of the first byte.
unfoldable pub walk_from : Option ℕ → ℕ → ℕ → List ℕ → Walk
walk_from chosen taken offset bytes = walk_by (length bytes) chosen taken offset bytes

-- the walk over a store
abbrev pub walk : Option ℕ → List ℕ → Walk
walk chosen bytes = walk_from chosen 0 0 bytes

-- the bytes of packets, one after another
abbrev pub packets_bytes : List Packet → List ℕ
packets_bytes packets = flat_map packet_bytes packets

abbrev pub bad_at : ℕ → Front → Option WalkFault
bad_at offset End = None
bad_at offset (Good p rest) = None
bad_at offset (Bad why) = Some (fault.Bad offset why)

-- why these bytes are not walked, if the given number of packets come before them and the first byte has this offset
abbrev pub ending_at : Option ℕ → ℕ → ℕ → List ℕ → Option WalkFault
ending_at chosen taken offset [] = None
ending_at chosen taken offset (b ∷ bytes) = if taken == 2 ^ 32 then Some fault.TooMany else bad_at offset (front chosen (b ∷ bytes))
