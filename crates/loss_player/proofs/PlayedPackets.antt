-- The packets of a played store, part by part, and the copies of one.
use Rattle.std.specs.List.{filter}
use Rattle.std.proofs.Common.{◌≡◌, ℕ, zero, suc, ◌+◌, List, ◌++◌, replicate, refl, sym, ap, ◌∙◌, append_assoc, append-nil, arith, Bool, true, false, not, cond, [], ◌∷◌, Option}
use Rattle.std.proofs.lemmas.List.Concat.{flat_map-cons}
use Rattle.std.proofs.lemmas.List.Elements.{filter-append}
use Rattle.packet_store.specs.SpacePackets.{Packet, packet_bytes, is_chosen}
use Rattle.packet_store.specs.Walks.{packets_bytes}
use Rattle.loss_player.specs.Copied.{copied_from}
use Rattle.loss_player.specs.Played.{repeated, times_of, place_after, played_from}

-- ---- the bytes of a packet, written again and again

pub repeated-more : (n : ℕ) (bytes : List ℕ) → repeated n bytes ++ bytes ≡ repeated (n + 1) bytes
repeated-more zero bytes = sym (append-nil bytes)
repeated-more (suc n) bytes =
    let next : suc (n + 1) ≡ suc n + 1 = omega arith in
    append_assoc bytes (repeated n bytes) bytes ∙ (ap (λ (l : List ℕ). bytes ++ l) (repeated-more n bytes) ∙ ap (λ (k : ℕ). repeated k bytes) next)

pub repeated-then : (n m : ℕ) (bytes : List ℕ) → repeated n bytes ++ repeated m bytes ≡ repeated (n + m) bytes
repeated-then zero m bytes = let all : m ≡ 0 + m = omega arith in ap (λ (k : ℕ). repeated k bytes) all
repeated-then (suc n) m bytes =
    let next : suc (n + m) ≡ suc n + m = omega arith in
    append_assoc bytes (repeated n bytes) (repeated m bytes) ∙ (ap (λ (l : List ℕ). bytes ++ l) (repeated-then n m bytes) ∙ ap (λ (k : ℕ). repeated k bytes) next)

pub packets_bytes-replicate : (n : ℕ) (p : Packet) → packets_bytes (replicate n p) ≡ repeated n (packet_bytes p)
packets_bytes-replicate zero p = refl
packets_bytes-replicate (suc n) p = flat_map-cons packet_bytes p (replicate n p) ∙ ap (λ (l : List ℕ). packet_bytes p ++ l) (packets_bytes-replicate n p)

-- ---- each packet once

once : (own : Bool) (copies : ℕ → ℕ) (t : ℕ) → ((n : ℕ) → copies n ≡ 1) → times_of own copies t ≡ 1
once true copies t all = all t
once false copies t all = refl

pub played_from-once : (chosen : Option ℕ) (copies : ℕ → ℕ) (t : ℕ) (packets : List Packet) → ((n : ℕ) → copies n ≡ 1) → played_from chosen copies t packets ≡ packets
played_from-once chosen copies t [] all = refl
played_from-once chosen copies t (p ∷ packets) all =
    ap (λ (n : ℕ). replicate n p ++ played_from chosen copies (place_after (is_chosen chosen p.header) t) packets) (once (is_chosen chosen p.header) copies t all)
    ∙ ap (λ (l : List Packet). p ∷ l) (played_from-once chosen copies (place_after (is_chosen chosen p.header) t) packets all)

-- ---- the packets that pass a test, and those that don't

filter-kept : (test : Packet → Bool) (n : ℕ) (p : Packet) → test p ≡ true → filter test (replicate n p) ≡ replicate n p
filter-kept test zero p is = refl
filter-kept test (suc n) p is = ap (λ (b : Bool). cond b (p ∷ filter test (replicate n p)) (filter test (replicate n p))) is ∙ ap (λ (l : List Packet). p ∷ l) (filter-kept test n p is)

filter-none : (test : Packet → Bool) (n : ℕ) (p : Packet) → test p ≡ false → filter test (replicate n p) ≡ []
filter-none test zero p is = refl
filter-none test (suc n) p is = ap (λ (b : Bool). cond b (p ∷ filter test (replicate n p)) (filter test (replicate n p))) is ∙ filter-none test n p is

abbrev own_of : Option ℕ → Packet → Bool
own_of chosen p = is_chosen chosen p.header

abbrev other_of : Option ℕ → Packet → Bool
other_of chosen p = not (is_chosen chosen p.header)

-- ---- those of the chosen APID

own_step : (chosen : Option ℕ) (copies : ℕ → ℕ) (t : ℕ) (p : Packet) (own : Bool) (later : List Packet) → own_of chosen p ≡ own
    → filter (own_of chosen) (replicate (times_of own copies t) p) ++ copied_from copies (place_after own t) later ≡ copied_from copies t (cond own (p ∷ later) later)
own_step chosen copies t p true later is = ap (λ (l : List Packet). l ++ copied_from copies (t + 1) later) (filter-kept (own_of chosen) (copies t) p is)
own_step chosen copies t p false later is = ap (λ (l : List Packet). l ++ copied_from copies t later) (filter-none (own_of chosen) 1 p is)

pub played_own : (chosen : Option ℕ) (copies : ℕ → ℕ) (t : ℕ) (packets : List Packet) → filter (own_of chosen) (played_from chosen copies t packets) ≡ copied_from copies t (filter (own_of chosen) packets)
played_own chosen copies t [] = refl
played_own chosen copies t (p ∷ packets) =
    filter-append (own_of chosen) (replicate (times_of (own_of chosen p) copies t) p) (played_from chosen copies (place_after (own_of chosen p) t) packets)
    ∙ (ap (λ (l : List Packet). filter (own_of chosen) (replicate (times_of (own_of chosen p) copies t) p) ++ l) (played_own chosen copies (place_after (own_of chosen p) t) packets)
    ∙ own_step chosen copies t p (own_of chosen p) (filter (own_of chosen) packets) refl)

-- ---- all others

others_step : (chosen : Option ℕ) (copies : ℕ → ℕ) (t : ℕ) (p : Packet) (own : Bool) (later : List Packet) → own_of chosen p ≡ own
    → filter (other_of chosen) (replicate (times_of own copies t) p) ++ later ≡ cond (not own) (p ∷ later) later
others_step chosen copies t p true later is = ap (λ (l : List Packet). l ++ later) (filter-none (other_of chosen) (copies t) p (ap not is))
others_step chosen copies t p false later is = ap (λ (l : List Packet). l ++ later) (filter-kept (other_of chosen) 1 p (ap not is))

pub played_others : (chosen : Option ℕ) (copies : ℕ → ℕ) (t : ℕ) (packets : List Packet) → filter (other_of chosen) (played_from chosen copies t packets) ≡ filter (other_of chosen) packets
played_others chosen copies t [] = refl
played_others chosen copies t (p ∷ packets) =
    filter-append (other_of chosen) (replicate (times_of (own_of chosen p) copies t) p) (played_from chosen copies (place_after (own_of chosen p) t) packets)
    ∙ (ap (λ (l : List Packet). filter (other_of chosen) (replicate (times_of (own_of chosen p) copies t) p) ++ l) (played_others chosen copies (place_after (own_of chosen p) t) packets)
    ∙ others_step chosen copies t p (own_of chosen p) (filter (other_of chosen) packets) refl)

-- ---- more packets

-- the number of the chosen APID's next packet, after these
abbrev pub number_after : Option ℕ → ℕ → List Packet → ℕ
number_after chosen t [] = t
number_after chosen t (p ∷ packets) = number_after chosen (place_after (is_chosen chosen p.header) t) packets

pub played_from-append : (chosen : Option ℕ) (copies : ℕ → ℕ) (t : ℕ) (xs ys : List Packet) → played_from chosen copies t (xs ++ ys) ≡ played_from chosen copies t xs ++ played_from chosen copies (number_after chosen t xs) ys
played_from-append chosen copies t [] ys = refl
played_from-append chosen copies t (p ∷ xs) ys =
    ap (λ (l : List Packet). replicate (times_of (is_chosen chosen p.header) copies t) p ++ l) (played_from-append chosen copies (place_after (is_chosen chosen p.header) t) xs ys)
    ∙ sym (append_assoc (replicate (times_of (is_chosen chosen p.header) copies t) p) (played_from chosen copies (place_after (is_chosen chosen p.header) t) xs) (played_from chosen copies (number_after chosen (place_after (is_chosen chosen p.header) t) xs) ys))
