-- The played store: each packet as often as it arrives, and the gaps between those that arrive.
use Rattle.std.specs.List.{filter, count_by, sum_by, range_with_len}
use Rattle.std.specs.Prelude.{◌≡◌, ℕ, ◌+◌, ◌<◌, ◌≤◌, IfSome, zero, suc, ◌-◌, ◌==◌, nat_lt, max, Bool, if◌then◌else◌, List, [], ◌∷◌, ◌++◌, length, replicate, Option, Some, None}
use Rattle.packet_store.specs.SpacePackets.{period, Packet, is_chosen}
use Rattle.packet_store.specs.Walks.{walk, packets_bytes}
use Rattle.loss_player.specs.declared.played.Played.{Played}

-- ---- gaps between the packets that arrive, and whether each is shorter than the period of the sequence counts

-- no packet arrives from the first of these numbers up to the one before the other
abbrev pub AreDropped : (ℕ → ℕ) → ℕ → ℕ → Type 0
AreDropped copies from to = (t : ℕ) → t < to → from ≤ t → copies t ≡ 0

-- the packet arrives, and none before it
pub record IsFirst (copies : ℕ → ℕ) (t : ℕ) : Type 0 where
  pub arrives : 1 ≤ copies t
  pub none : AreDropped copies 0 t

-- both packets arrive, and none between them
pub record AreNext (copies : ℕ → ℕ) (s t : ℕ) : Type 0 where
  pub order : s < t
  pub earlier : 1 ≤ copies s
  pub later : 1 ≤ copies t
  pub none : AreDropped copies (s + 1) t

-- Of n packets, the first that arrives has a number below the period, and each other one that arrives comes less than a
-- period after the one before.
pub record AreGapsShort (copies : ℕ → ℕ) (n : ℕ) : Type 0 where
  pub first : (t : ℕ) → t < n → IsFirst copies t → t < period
  pub between : (s t : ℕ) → t < n → AreNext copies s t → t < s + period

-- the first delivered number and the widest difference are below the period
pub record TellsShortGaps (played : Played) : Type 0 where
  pub first : IfSome played.first (λ t. t < period)
  pub widest : played.widest < period

-- ---- the packets that arrive

-- how often a packet arrives: one of the chosen APID by its number, any other once
abbrev pub times_of : Bool → (ℕ → ℕ) → ℕ → ℕ
times_of own copies t = if own then copies t else 1

-- the number of the chosen APID's next packet, after a packet
abbrev pub place_after : Bool → ℕ → ℕ
place_after own t = if own then t + 1 else t

-- What arrives of these packets, in order, when t packets of the chosen APID stand before them.
abbrev pub played_from : Option ℕ → (ℕ → ℕ) → ℕ → List Packet → List Packet
played_from chosen copies t [] = []
played_from chosen copies t (p ∷ packets) =
    let own = is_chosen chosen p.header in
    replicate (times_of own copies t) p ++ played_from chosen copies (place_after own t) packets

-- the packets of the walk over a store that arrive, for a chosen APID
abbrev pub played_packets : (ℕ → ℕ) → ℕ → List ℕ → List Packet
played_packets copies apid store = played_from (Some apid) copies 0 (walk (Some apid) store).packets

-- the played store
abbrev pub played_bytes : (ℕ → ℕ) → ℕ → List ℕ → List ℕ
played_bytes copies apid store = packets_bytes (played_packets copies apid store)

-- the bytes of a packet so many times
abbrev pub repeated : ℕ → List ℕ → List ℕ
repeated zero bytes = []
repeated (suc n) bytes = bytes ++ repeated n bytes

-- ---- the numbers

-- the numbers of the packets that arrive, of n packets
abbrev pub delivered : (ℕ → ℕ) → ℕ → List ℕ
delivered copies n = filter (λ t. nat_lt 0 (copies t)) (range_with_len 0 n)

abbrev pub first_of : List ℕ → Option ℕ
first_of [] = None
first_of (t ∷ numbers) = Some t

-- the greatest difference of two numbers that follow one another, and 0 if fewer than two are
abbrev pub widest_gap : List ℕ → ℕ
widest_gap [] = 0
widest_gap (t ∷ []) = 0
widest_gap (t ∷ u ∷ numbers) = max (u - t) (widest_gap (u ∷ numbers))

-- the numbers of n packets of the chosen APID and their copies
abbrev pub played_of : (ℕ → ℕ) → ℕ → Played
played_of copies n = record {
  packets = n;
  delivered = length (delivered copies n);
  dropped = count_by (λ t. copies t == 0) (range_with_len 0 n);
  repeats = sum_by (λ t. copies t - 1) (range_with_len 0 n);
  first = first_of (delivered copies n);
  widest = widest_gap (delivered copies n);
}

-- how many of these packets are of the chosen APID
abbrev pub chosen_count : Option ℕ → List Packet → ℕ
chosen_count chosen packets = count_by (λ p. is_chosen chosen p.header) packets

-- the numbers of the packets of a store and their copies
abbrev pub store_numbers : (ℕ → ℕ) → ℕ → List ℕ → Played
store_numbers copies apid store = played_of copies (chosen_count (Some apid) (walk (Some apid) store).packets)
