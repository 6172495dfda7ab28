-- The walk over a store: its equation, whatever the number of steps that it may take, and what its parts are.
use Rattle.std.proofs.Common.{◌≡◌, refl, [], ◌∷◌, Bool, true, false, ◌==◌, if◌then◌else◌, ℕ, zero, suc, ◌+◌, ◌^◌, ◌<◌, ◌≤◌, List, ◌++◌, length, map, All, Option, Some, None, sym, ap, subst, ◌∙◌, append_assoc, get_or, append-nil, length-append, arith}
use Rattle.std.proofs.lemmas.List.{drop_at}
use Rattle.std.proofs.lemmas.List.Elements.{All-drop}
use Rattle.std.proofs.lemmas.Grind.{common_steps}
use Rattle.packet_store.specs.declared.fault.StoreKind.{StoreKind}
use Rattle.packet_store.specs.declared.fault.StoreKind.TheVariants as kind
use Rattle.packet_store.specs.declared.fault.WalkFault.{WalkFault}
use Rattle.packet_store.specs.declared.fault.WalkFault.TheVariants as fault
use Rattle.packet_store.specs.SpacePackets.{IsPacket, Packet, packet_bytes, plain_packet, store_bytes}
use Rattle.packet_store.specs.Walks.{IsGood, Front, End, Good, Bad, front, Walk, walked, stopped_at, packet_first, at_limit, by_front, walk_step, walk_by, walk_from, packets_bytes, by_checks, bad_at, ending_at}
use Rattle.packet_store.specs.StoreReader.{IsOnlyCut, IsEarly}
use Rattle.packet_store.proofs.Packets.{front-good, front-Good, front-shorter, IsGood-plain}

either_way : (b : Bool) (w : Walk) → (if b then w else w) ≡ w
either_way true w = refl
either_way false w = refl

walk_by-end : (steps : ℕ) (chosen : Option ℕ) (taken offset : ℕ) → walk_by steps chosen taken offset [] ≡ walked
unfolding walk_by
walk_by-end zero chosen taken offset = refl
walk_by-end (suc steps) chosen taken offset = either_way (taken == 2 ^ 32) walked

walk_by-suc : (steps : ℕ) (chosen : Option ℕ) (taken offset : ℕ) (bytes : List ℕ)
    → walk_by (suc steps) chosen taken offset bytes ≡ walk_step chosen taken offset bytes (λ p rest. walk_by steps chosen (taken + 1) (offset + length (packet_bytes p)) rest)
unfolding walk_by
walk_by-suc steps chosen taken offset bytes = refl

by_front-same : (on more : Packet → List ℕ → Walk) (offset : ℕ) (bytes : List ℕ) (found : Front) → ((p : Packet) (rest : List ℕ) → found ≡ Good p rest → on p rest ≡ more p rest) → by_front on offset bytes found ≡ by_front more offset bytes found
by_front-same on more offset bytes End same = refl
by_front-same on more offset bytes (Good p rest) same = ap (packet_first p) (same p rest refl)
by_front-same on more offset bytes (Bad why) same = refl

walk_step-same : (chosen : Option ℕ) (taken offset : ℕ) (bytes : List ℕ) (on more : Packet → List ℕ → Walk) → ((p : Packet) (rest : List ℕ) → front chosen bytes ≡ Good p rest → on p rest ≡ more p rest) → walk_step chosen taken offset bytes on ≡ walk_step chosen taken offset bytes more
walk_step-same chosen taken offset bytes on more same = ap (λ w. if taken == 2 ^ 32 then at_limit bytes else w) (by_front-same on more offset bytes (front chosen bytes) same)

-- more steps than there are bytes change nothing
walk_by-more : (m n : ℕ) (chosen : Option ℕ) (taken offset : ℕ) (bytes : List ℕ) → length bytes ≤ m → length bytes ≤ n → walk_by m chosen taken offset bytes ≡ walk_by n chosen taken offset bytes
walk_by-more zero n chosen taken offset [] few less = walk_by-end zero chosen taken offset ∙ sym (walk_by-end n chosen taken offset)
walk_by-more zero n chosen taken offset (b ∷ bytes) few less = absurd (omega arith)
walk_by-more (suc m) zero chosen taken offset [] few less = walk_by-end (suc m) chosen taken offset ∙ sym (walk_by-end zero chosen taken offset)
walk_by-more (suc m) zero chosen taken offset (b ∷ bytes) few less = absurd (omega arith)
walk_by-more (suc m) (suc n) chosen taken offset bytes few less =
    let one = walk_by-suc m chosen taken offset bytes in
    let other = walk_by-suc n chosen taken offset bytes in
    let on : Packet → List ℕ → Walk = λ p rest. walk_by m chosen (taken + 1) (offset + length (packet_bytes p)) rest in
    let more : Packet → List ℕ → Walk = λ p rest. walk_by n chosen (taken + 1) (offset + length (packet_bytes p)) rest in
    one
    ∙ walk_step-same chosen taken offset bytes on more (λ p rest at.
    let shorter = front-shorter chosen bytes p rest at in
    walk_by-more m n chosen (taken + 1) (offset + length (packet_bytes p)) rest (omega arith) (omega arith))
    ∙ sym other

-- the walk goes step by step
pub walk_from-step : (chosen : Option ℕ) (taken offset : ℕ) (bytes : List ℕ)
    → walk_from chosen taken offset bytes ≡ walk_step chosen taken offset bytes (λ p rest. walk_from chosen (taken + 1) (offset + length (packet_bytes p)) rest)
unfolding walk_from
walk_from-step chosen taken offset [] = walk_by-end zero chosen taken offset ∙ sym (either_way (taken == 2 ^ 32) walked)
walk_from-step chosen taken offset (b ∷ bytes) =
    let on : Packet → List ℕ → Walk = λ p rest. walk_by (length bytes) chosen (taken + 1) (offset + length (packet_bytes p)) rest in
    let more : Packet → List ℕ → Walk = λ p rest. walk_by (length rest) chosen (taken + 1) (offset + length (packet_bytes p)) rest in
    walk_by-suc (length bytes) chosen taken offset (b ∷ bytes)
    ∙ walk_step-same chosen taken offset (b ∷ bytes) on more (λ p rest at.
    let shorter = front-shorter chosen (b ∷ bytes) p rest at in
    walk_by-more (length bytes) (length rest) chosen (taken + 1) (offset + length (packet_bytes p)) rest (omega arith) (omega arith))

pub not_full : (taken : ℕ) → taken < 2 ^ 32 → (taken == 2 ^ 32) ≡ false
not_full taken few = grind (arith, common_steps)

-- a good packet, and then the walk after it
pub walk_from-good : (chosen : Option ℕ) (taken offset : ℕ) (p : Packet) (rest : List ℕ) → IsGood chosen p → taken < 2 ^ 32
    → walk_from chosen taken offset (packet_bytes p ++ rest) ≡ packet_first p (walk_from chosen (taken + 1) (offset + length (packet_bytes p)) rest)
walk_from-good chosen taken offset p rest good few =
    let on : Packet → List ℕ → Walk = λ q left. walk_from chosen (taken + 1) (offset + length (packet_bytes q)) left in
    let bytes = packet_bytes p ++ rest in
    walk_from-step chosen taken offset bytes ∙ (λ i. if not_full taken few i then at_limit bytes else by_front on offset bytes (front-good chosen p rest good i))

-- if no good packet is there the walk ends
pub walk_from-bad : (chosen : Option ℕ) (taken offset : ℕ) (bytes : List ℕ) (why : StoreKind) → front chosen bytes ≡ Bad why → taken < 2 ^ 32
    → walk_from chosen taken offset bytes ≡ stopped_at (fault.Bad offset why) bytes
walk_from-bad chosen taken offset bytes why bad few =
    let on : Packet → List ℕ → Walk = λ q left. walk_from chosen (taken + 1) (offset + length (packet_bytes q)) left in
    walk_from-step chosen taken offset bytes ∙ (λ i. if not_full taken few i then at_limit bytes else by_front on offset bytes (bad i))

pub walk_from-too_many : (chosen : Option ℕ) (taken offset b : ℕ) (bytes : List ℕ) → taken ≡ 2 ^ 32 → walk_from chosen taken offset (b ∷ bytes) ≡ stopped_at fault.TooMany (b ∷ bytes)
walk_from-too_many chosen taken offset b bytes full =
    let on : Packet → List ℕ → Walk = λ q left. walk_from chosen (taken + 1) (offset + length (packet_bytes q)) left in
    walk_from-step chosen taken offset (b ∷ bytes) ∙ ap (λ n. if n == 2 ^ 32 then at_limit (b ∷ bytes) else by_front on offset (b ∷ bytes) (front chosen (b ∷ bytes))) full

pub walk_from-none : (chosen : Option ℕ) (taken offset : ℕ) → walk_from chosen taken offset [] ≡ walked
walk_from-none chosen taken offset = walk_from-step chosen taken offset [] ∙ either_way (taken == 2 ^ 32) walked

-- no good packet is there
abbrev IsNoPacket : Front → Type 0
IsNoPacket End = Unit {0}
IsNoPacket (Good p rest) = ⊥
IsNoPacket (Bad why) = Unit {0}

no_packets_at_limit : (bytes : List ℕ) → (at_limit bytes).packets ≡ []
no_packets_at_limit [] = refl
no_packets_at_limit (b ∷ bytes) = refl

no_packets : (full : Bool) (on : Packet → List ℕ → Walk) (offset : ℕ) (bytes : List ℕ) (found : Front) → IsNoPacket found → (if full then at_limit bytes else by_front on offset bytes found).packets ≡ []
no_packets true on offset bytes found none = no_packets_at_limit bytes
no_packets false on offset bytes End none = refl
no_packets false on offset bytes (Good p rest) none = absurd none
no_packets false on offset bytes (Bad why) none = refl

-- if no good packet is there none is walked
walk_from-no_packet : (chosen : Option ℕ) (taken offset : ℕ) (bytes : List ℕ) → IsNoPacket (front chosen bytes) → (walk_from chosen taken offset bytes).packets ≡ []
walk_from-no_packet chosen taken offset bytes none =
    let on : Packet → List ℕ → Walk = λ q left. walk_from chosen (taken + 1) (offset + length (packet_bytes q)) left in
    ap (λ (w : Walk). w.packets) (walk_from-step chosen taken offset bytes) ∙ no_packets (taken == 2 ^ 32) on offset bytes (front chosen bytes) none

early_end : (on : Packet → List ℕ → Walk) (offset : ℕ) (bytes : List ℕ) (found : Front) → IsEarly found → ((by_front on offset bytes found).packets ≡ []) × IsOnlyCut (by_front on offset bytes found).ending
early_end on offset bytes End early = (refl, tt)
early_end on offset bytes (Good p rest) early = absurd early
early_end on offset bytes (Bad kind.Cut) early = (refl, tt)
early_end on offset bytes (Bad kind.Version) early = absurd early
early_end on offset bytes (Bad kind.Shape) early = absurd early

-- if nothing is wrong except that bytes are missing, no packet is walked, and nothing else is wrong in the walk
pub walk_from-early : (chosen : Option ℕ) (taken offset : ℕ) (bytes : List ℕ) → taken < 2 ^ 32 → IsEarly (front chosen bytes)
    → ((walk_from chosen taken offset bytes).packets ≡ []) × IsOnlyCut (walk_from chosen taken offset bytes).ending
walk_from-early chosen taken offset bytes few early =
    let on : Packet → List ℕ → Walk = λ q left. walk_from chosen (taken + 1) (offset + length (packet_bytes q)) left in
    let walked_so = walk_from-step chosen taken offset bytes ∙ (λ i. if not_full taken few i then at_limit bytes else by_front on offset bytes (front chosen bytes)) in
    subst (λ (w : Walk). (w.packets ≡ []) × IsOnlyCut w.ending) (sym walked_so) (early_end on offset bytes (front chosen bytes) early)

-- The parts of a walk: good packets, not too many, and a rest that tells how it ends. Joined they are the bytes.
pub record IsWalk (chosen : Option ℕ) (taken offset : ℕ) (bytes : List ℕ) (w : Walk) : Type 0 where
  pub good : All (IsGood chosen) w.packets
  pub joined : packets_bytes w.packets ++ w.rest ≡ bytes
  pub few : taken + length w.packets ≤ 2 ^ 32
  pub ends : w.ending ≡ ending_at chosen (taken + length w.packets) (offset + length (packets_bytes w.packets)) w.rest

All-none : {X : Type 0} (P : X → Type 0) → All P []
All-none P = λ k d within. absurd (omega arith)

All-more : {X : Type 0} (P : X → Type 0) (x : X) (xs : List X) → P x → All P xs → All P (x ∷ xs)
All-more {X = X} P x xs here all = λ k d within. at k d within where
  at : (k : ℕ) (d : X) → k < length (x ∷ xs) → P (get_or (x ∷ xs) k d)
  at zero d within = here
  at (suc k) d within = all k d (omega arith)

All-rest : (xs ys : List ℕ) → All (λ b. b < 256) (xs ++ ys) → All (λ b. b < 256) ys
All-rest xs ys all = subst (All (λ b. b < 256)) (drop_at xs ys (length xs) refl) (All-drop (λ b. b < 256) (length xs) (xs ++ ys) all)

from_full : (taken : ℕ) → (taken == 2 ^ 32) ≡ true → taken ≡ 2 ^ 32
from_full taken e = grind (arith, common_steps)

from_not_full : (taken : ℕ) → (taken == 2 ^ 32) ≡ false → taken ≤ 2 ^ 32 → taken + 1 ≤ 2 ^ 32
from_not_full taken e few = grind (arith, common_steps)

IsWalk-walked : (chosen : Option ℕ) (taken offset : ℕ) → taken ≤ 2 ^ 32 → IsWalk chosen taken offset [] walked
IsWalk-walked chosen taken offset few = record { good = All-none (IsGood chosen); joined = refl; few = omega arith; ends = refl }

IsWalk-stopped : (chosen : Option ℕ) (taken offset b : ℕ) (bytes : List ℕ) (reason : WalkFault) → taken ≤ 2 ^ 32 → ending_at chosen taken offset (b ∷ bytes) ≡ Some reason → IsWalk chosen taken offset (b ∷ bytes) (stopped_at reason (b ∷ bytes))
IsWalk-stopped chosen taken offset b bytes reason few ends =
    let same_taken : taken ≡ taken + 0 = omega arith in
    let same_offset : offset ≡ offset + 0 = omega arith in
    record { good = All-none (IsGood chosen); joined = refl; few = omega arith; ends = sym ends ∙ λ i. ending_at chosen (same_taken i) (same_offset i) (b ∷ bytes) }

IsWalk-limit : (chosen : Option ℕ) (taken offset : ℕ) (bytes : List ℕ) → taken ≡ 2 ^ 32 → IsWalk chosen taken offset bytes (at_limit bytes)
IsWalk-limit chosen taken offset [] full = IsWalk-walked chosen taken offset (omega arith)
IsWalk-limit chosen taken offset (b ∷ bytes) full = IsWalk-stopped chosen taken offset b bytes fault.TooMany (omega arith) (ap (λ n. if n == 2 ^ 32 then Some fault.TooMany else bad_at offset (front chosen (b ∷ bytes))) full)

front-End : (chosen : Option ℕ) (bytes : List ℕ) → front chosen bytes ≡ End → bytes ≡ []
front-End chosen [] e = refl
front-End chosen (b ∷ bytes) e = absurd (front_more chosen b bytes e) where
  by_checks-found : (v s l : Bool) (p : Packet) (rest : List ℕ) → by_checks v s l (Good p rest) ≡ End → ⊥
  by_checks-found false s l p rest e = cc
  by_checks-found true true l p rest e = cc
  by_checks-found true false false p rest e = cc
  by_checks-found true false true p rest e = cc

  front_more : (chosen : Option ℕ) (b : ℕ) (bytes : List ℕ) → front chosen (b ∷ bytes) ≡ End → ⊥
  front_more chosen a (b ∷ c ∷ d ∷ e ∷ f ∷ bytes) none = by_checks-found _ _ _ _ _ none
  front_more chosen a bytes none = cc

IsWalk-more : (chosen : Option ℕ) (taken offset : ℕ) (p : Packet) (rest : List ℕ) (w : Walk) → IsGood chosen p → IsWalk chosen (taken + 1) (offset + length (packet_bytes p)) rest w → IsWalk chosen taken offset (packet_bytes p ++ rest) (packet_first p w)
IsWalk-more chosen taken offset p rest w good is =
    let count : taken + 1 + length w.packets ≡ taken + suc (length w.packets) = omega arith in
    let place : offset + length (packet_bytes p) + length (packets_bytes w.packets) ≡ offset + length (packet_bytes p ++ packets_bytes w.packets) = omega (arith, length-append (packet_bytes p) (packets_bytes w.packets)) in
    record {
      good = All-more (IsGood chosen) p w.packets good is.good;
      joined = append_assoc (packet_bytes p) (packets_bytes w.packets) w.rest ∙ ap (λ l. packet_bytes p ++ l) is.joined;
      few = omega (arith, is.few);
      ends = is.ends ∙ λ i. ending_at chosen (count i) (place i) w.rest;
    }

-- a walk has these parts
pub IsWalk-walk_from : (n : ℕ) (chosen : Option ℕ) (taken offset : ℕ) (bytes : List ℕ) → length bytes ≤ n → taken ≤ 2 ^ 32 → All (λ b. b < 256) bytes → IsWalk chosen taken offset bytes (walk_from chosen taken offset bytes)
IsWalk-walk_from zero chosen taken offset [] short few all = subst (IsWalk chosen taken offset []) (sym (walk_from-none chosen taken offset)) (IsWalk-walked chosen taken offset few)
IsWalk-walk_from zero chosen taken offset (b ∷ bytes) short few all = absurd (omega arith)
IsWalk-walk_from (suc n) chosen taken offset bytes short few all = subst (IsWalk chosen taken offset bytes) (sym (walk_from-step chosen taken offset bytes)) (parts (λ p rest shorter fewer left. IsWalk-walk_from n chosen (taken + 1) (offset + length (packet_bytes p)) rest shorter fewer left) (taken == 2 ^ 32) refl (front chosen bytes) refl) where
  on : Packet → List ℕ → Walk
  on p rest = walk_from chosen (taken + 1) (offset + length (packet_bytes p)) rest

  stopped : (bytes : List ℕ) (why : StoreKind) → (taken == 2 ^ 32) ≡ false → front chosen bytes ≡ Bad why → IsWalk chosen taken offset bytes (stopped_at (fault.Bad offset why) bytes)
  stopped [] why full e = absurd cc
  stopped (b ∷ bytes) why full e = IsWalk-stopped chosen taken offset b bytes (fault.Bad offset why) few (λ i. if full i then Some fault.TooMany else bad_at offset (e i))

  parts : ((p : Packet) (rest : List ℕ) → length rest ≤ n → taken + 1 ≤ 2 ^ 32 → All (λ b. b < 256) rest → IsWalk chosen (taken + 1) (offset + length (packet_bytes p)) rest (on p rest)) → (full : Bool) → (taken == 2 ^ 32) ≡ full → (found : Front) → front chosen bytes ≡ found → IsWalk chosen taken offset bytes (if full then at_limit bytes else by_front on offset bytes found)
  parts later true full found e = IsWalk-limit chosen taken offset bytes (from_full taken full)
  parts later false full End e = subst (λ l. IsWalk chosen taken offset l walked) (sym (front-End chosen bytes e)) (IsWalk-walked chosen taken offset few)
  parts later false full (Good p rest) e =
      let read = front-Good chosen bytes p rest all e in
      let shorter = front-shorter chosen bytes p rest e in
      let left : All (λ b. b < 256) rest = All-rest (packet_bytes p) rest (subst (All (λ b. b < 256)) read.1 all) in
      let more = later p rest (omega arith) (from_not_full taken full few) left in
      subst (λ l. IsWalk chosen taken offset l (packet_first p (on p rest))) (sym read.1) (IsWalk-more chosen taken offset p rest (on p rest) read.0 more)
  parts later false full (Bad why) e = stopped bytes why full e

packets_first : List Packet → Walk → Walk
packets_first packets w = record w { packets = packets ++ w.packets }

-- packets of the one shape, one after another, and then the walk after them
walk_from-store_bytes : (chosen : Option ℕ) (taken offset apid : ℕ) (packets : List (ℕ × List ℕ)) (rest : List ℕ) → All (λ p. IsPacket apid p.0 p.1) packets → taken + length packets ≤ 2 ^ 32
    → walk_from chosen taken offset (store_bytes apid packets ++ rest) ≡ packets_first (map (λ p. plain_packet apid p.0 p.1) packets) (walk_from chosen (taken + length packets) (offset + length (store_bytes apid packets)) rest)
unfolding packets_first
walk_from-store_bytes chosen taken offset apid [] rest all few =
    let same_taken : taken ≡ taken + 0 = omega arith in
    let same_offset : offset ≡ offset + 0 = omega arith in λ i.
    walk_from chosen (same_taken i) (same_offset i) rest
walk_from-store_bytes chosen taken offset apid (p ∷ packets) rest all few =
    let here : IsPacket apid p.0 p.1 = all 0 p (omega arith) in
    let more : All (λ q. IsPacket apid q.0 q.1) packets = λ k d within. all (suc k) d (omega arith) in
    let packet = plain_packet apid p.0 p.1 in
    let count : taken + 1 + length packets ≡ taken + suc (length packets) = omega arith in
    let place : offset + length (packet_bytes packet) + length (store_bytes apid packets) ≡ offset + length (packet_bytes packet ++ store_bytes apid packets) = omega (arith, length-append (packet_bytes packet) (store_bytes apid packets)) in
    ap (walk_from chosen taken offset) (append_assoc (packet_bytes packet) (store_bytes apid packets) rest)
    ∙ walk_from-good chosen taken offset packet (store_bytes apid packets ++ rest) (IsGood-plain chosen apid p.0 p.1 here) (omega arith)
    ∙ ap (packet_first packet) (walk_from-store_bytes chosen (taken + 1) (offset + length (packet_bytes packet)) apid packets rest more (omega arith))
    ∙ (λ i. packets_first (packet ∷ map (λ q. plain_packet apid q.0 q.1) packets) (walk_from chosen (count i) (place i) rest))

-- a store of packets of the one shape is whole, and its walk has these packets
pub walk-store_bytes : (chosen : Option ℕ) (apid : ℕ) (packets : List (ℕ × List ℕ)) → All (λ p. IsPacket apid p.0 p.1) packets → length packets ≤ 2 ^ 32
    → walk_from chosen 0 0 (store_bytes apid packets) ≡ record { packets = map (λ p. plain_packet apid p.0 p.1) packets; rest = []; ending = None }
unfolding packets_first
walk-store_bytes chosen apid packets all few =
    let plain = map (λ (p : ℕ × List ℕ). plain_packet apid p.0 p.1) packets in
    ap (walk_from chosen 0 0) (sym (append-nil (store_bytes apid packets)))
    ∙ walk_from-store_bytes chosen 0 0 apid packets [] all (omega arith)
    ∙ ap (packets_first plain) (walk_from-none chosen (0 + length packets) (0 + length (store_bytes apid packets)))
    ∙ ap (λ (l : List Packet). record walked { packets = l }) (append-nil plain)

-- the walk of some bytes and more has the packets of the walk of those, and later ones
pub record IsLonger (chosen : Option ℕ) (taken offset : ℕ) (bytes more : List ℕ) : Type 0 where
  pub later : List Packet
  pub joined : (walk_from chosen taken offset (bytes ++ more)).packets ≡ (walk_from chosen taken offset bytes).packets ++ later

IsLonger-none : (chosen : Option ℕ) (taken offset : ℕ) (bytes more : List ℕ) → (walk_from chosen taken offset bytes).packets ≡ [] → IsLonger chosen taken offset bytes more
IsLonger-none chosen taken offset bytes more none = record { later = (walk_from chosen taken offset (bytes ++ more)).packets; joined = ap (λ (l : List Packet). l ++ (walk_from chosen taken offset (bytes ++ more)).packets) (sym none) }

IsLonger-more : (chosen : Option ℕ) (taken offset : ℕ) (p : Packet) (bytes rest more : List ℕ) → IsGood chosen p → taken < 2 ^ 32 → bytes ≡ packet_bytes p ++ rest → IsLonger chosen (taken + 1) (offset + length (packet_bytes p)) rest more → IsLonger chosen taken offset bytes more
IsLonger-more chosen taken offset p bytes rest more good few is longer =
    let short_walk = ap (walk_from chosen taken offset) is ∙ walk_from-good chosen taken offset p rest good few in
    let long_walk = ap (λ l. walk_from chosen taken offset (l ++ more)) is ∙ ap (walk_from chosen taken offset) (append_assoc (packet_bytes p) rest more) ∙ walk_from-good chosen taken offset p (rest ++ more) good few in
    record { later = longer.later; joined = ap (λ (w : Walk). w.packets) long_walk ∙ (ap (λ (l : List Packet). p ∷ l) longer.joined ∙ ap (λ (w : Walk). w.packets ++ longer.later) (sym short_walk)) }

walk_from-full : (chosen : Option ℕ) (taken offset : ℕ) (bytes : List ℕ) → (taken == 2 ^ 32) ≡ true → (walk_from chosen taken offset bytes).packets ≡ []
walk_from-full chosen taken offset bytes full =
    let on : Packet → List ℕ → Walk = λ p rest. walk_from chosen (taken + 1) (offset + length (packet_bytes p)) rest in
    ap (λ (w : Walk). w.packets) (walk_from-step chosen taken offset bytes ∙ ap (λ b. if b then at_limit bytes else by_front on offset bytes (front chosen bytes)) full) ∙ no_packets_at_limit bytes

-- the walk over a prefix of some bytes has a prefix of their packets
pub IsLonger-walk_from : (n : ℕ) (chosen : Option ℕ) (taken offset : ℕ) (bytes more : List ℕ) → length bytes ≤ n → taken ≤ 2 ^ 32 → All (λ b. b < 256) bytes → IsLonger chosen taken offset bytes more
IsLonger-walk_from zero chosen taken offset [] more short few all = IsLonger-none chosen taken offset [] more (ap (λ (w : Walk). w.packets) (walk_from-none chosen taken offset))
IsLonger-walk_from zero chosen taken offset (b ∷ bytes) more short few all = absurd (omega arith)
IsLonger-walk_from (suc n) chosen taken offset bytes more short few all = by_step (λ p rest shorter fewer left. IsLonger-walk_from n chosen (taken + 1) (offset + length (packet_bytes p)) rest more shorter fewer left) (taken == 2 ^ 32) refl (front chosen bytes) refl where
  by_step : ((p : Packet) (rest : List ℕ) → length rest ≤ n → taken + 1 ≤ 2 ^ 32 → All (λ b. b < 256) rest → IsLonger chosen (taken + 1) (offset + length (packet_bytes p)) rest more) → (full : Bool) → (taken == 2 ^ 32) ≡ full → (found : Front) → front chosen bytes ≡ found → IsLonger chosen taken offset bytes more
  by_step later true full found e = IsLonger-none chosen taken offset bytes more (walk_from-full chosen taken offset bytes full)
  by_step later false full End e = IsLonger-none chosen taken offset bytes more (walk_from-no_packet chosen taken offset bytes (subst IsNoPacket (sym e) tt))
  by_step later false full (Bad why) e = IsLonger-none chosen taken offset bytes more (walk_from-no_packet chosen taken offset bytes (subst IsNoPacket (sym e) tt))
  by_step later false full (Good p rest) e =
      let read = front-Good chosen bytes p rest all e in
      let shorter = front-shorter chosen bytes p rest e in
      let fewer : taken < 2 ^ 32 = omega (arith, from_not_full taken full few) in
      let longer = later p rest (omega arith) (omega arith) (All-rest (packet_bytes p) rest (subst (All (λ b. b < 256)) read.1 all)) in
      IsLonger-more chosen taken offset p bytes rest more read.0 fewer read.1 longer
