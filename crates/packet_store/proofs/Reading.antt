-- A packet that is read, or is not: what is then at the front of what is ahead, and how the walk goes on there.
use Rattle.std.proofs.Common.{◌≡◌, refl, [], ◌∷◌, true, ◌==◌, nat_le, ℕ, ◌+◌, ◌^◌, ◌<◌, ◌≤◌, List, ◌++◌, length, take, drop, Option, IfSome, sym, ap, subst, ◌∙◌, append_assoc, append-nil, length-append, length-drop, arith, inl, inr}
use Rattle.std.proofs.lemmas.Bool.{cases_lt}
use Rattle.std.proofs.lemmas.List.{take-append-drop, take-append-le, take-take}
use Rattle.std.specs.Io.KnownBytes.{IsAtEnd}
use Rattle.desk_ports.specs.declared.desk.Inlet.TheVariants as inlet
use Rattle.desk_ports.specs.Meanings.{Meanings, Moves, left, ReadsOn}
use Rattle.desk_ports.proofs.Courses.{prepend_known-none, rest_of, IfSome-rest_of, IfSome-IsAtEnd}
use Rattle.packet_store.specs.declared.header.Header.{Header}
use Rattle.packet_store.specs.declared.fault.StoreKind.{StoreKind}
use Rattle.packet_store.specs.declared.fault.StoreKind.TheVariants as kind
use Rattle.packet_store.specs.declared.fault.WalkFault.TheVariants as fault
use Rattle.packet_store.specs.declared.fault.StoreFault.{StoreFault}
use Rattle.packet_store.specs.declared.fault.StoreFault.TheVariants.{Cut, Version, Shape, ReadFault, TooMany}
use Rattle.packet_store.specs.declared.reader.Taken.{Taken}
use Rattle.packet_store.specs.SpacePackets.{IsHeader, header_of, packet_bytes, is_chosen, is_misshapen}
use Rattle.packet_store.specs.Walks.{IsGood, Front, End, Good, Bad, front_after, front, Walk, packet_first, stopped_at, walk_from}
use Rattle.packet_store.specs.StoreReader.{ReaderState, reader_state, TakesPacket, Stops, IsOnlyCut, Waits, AfterFault, front_packet, BeginsWithPacket, IsEarly, AfterUnread}
use Rattle.packet_store.proofs.Packets.{header_at-header_of, by_checks-Good, from_long}
use Rattle.packet_store.proofs.Walks.{walk_from-none, walk_from-good, walk_from-bad, walk_from-too_many, walk_from-early}

-- fewer bytes than a header has
pub front-short : (chosen : Option ℕ) (bytes : List ℕ) → 0 < length bytes → length bytes < 6 → front chosen bytes ≡ Bad kind.Cut
front-short chosen [] some few = absurd (omega arith)
front-short chosen (a ∷ []) some few = refl
front-short chosen (a ∷ b ∷ []) some few = refl
front-short chosen (a ∷ b ∷ c ∷ []) some few = refl
front-short chosen (a ∷ b ∷ c ∷ d ∷ []) some few = refl
front-short chosen (a ∷ b ∷ c ∷ d ∷ e ∷ []) some few = refl
front-short chosen (a ∷ b ∷ c ∷ d ∷ e ∷ f ∷ bytes) some few = absurd (omega arith)

pub IsEarly-short : (chosen : Option ℕ) (bytes : List ℕ) → length bytes < 6 → IsEarly (front chosen bytes)
IsEarly-short chosen [] few = tt
IsEarly-short chosen (a ∷ bytes) few = subst IsEarly (sym (front-short chosen (a ∷ bytes) (omega arith) few)) tt

-- a header and the bytes after it
front-header : (chosen : Option ℕ) (h : Header) (bytes : List ℕ) → IsHeader h → front chosen (header_of h ++ bytes) ≡ front_after chosen h bytes
front-header chosen h bytes fields = ap (λ h. front_after chosen h bytes) (header_at-header_of h fields)

-- ---- the header that bytes begin with

-- these bytes begin with this header
pub record HasHeader (h : Header) (bytes : List ℕ) : Type 0 where
  pub fields : IsHeader h
  pub spelled : take 6 bytes ≡ header_of h

whole_header : (h : Header) (bytes : List ℕ) → HasHeader h bytes → bytes ≡ header_of h ++ drop 6 bytes
whole_header h bytes has = sym (take-append-drop 6 bytes) ∙ ap (λ l. l ++ drop 6 bytes) has.spelled

-- ---- if a packet is whole

no_packet : (found : Front) (P : Type 0) → IsEarly found → (p : _) (rest : List ℕ) → found ≡ Good p rest → P
no_packet End P early p rest is = absurd (let e : ◌≡◌ {A = Front} End (Good p rest) = is in cc)
no_packet (Good q left) P early p rest is = absurd early
no_packet (Bad why) P early p rest is = absurd (let e : ◌≡◌ {A = Front} (Bad why) (Good p rest) = is in cc)

-- so is its header
pub long_header : (chosen : Option ℕ) (bytes : List ℕ) → BeginsWithPacket chosen bytes → 6 ≤ length bytes
long_header chosen bytes begins = elim (cases_lt (length bytes) 6) [
  | inl short ↦ no_packet (front chosen bytes) (6 ≤ length bytes) (IsEarly-short chosen bytes short) begins.packet begins.rest begins.is
  | inr long ↦ long
]

-- and so is everything that the header announces
pub long_packet : (chosen : Option ℕ) (h : Header) (bytes : List ℕ) → HasHeader h bytes → BeginsWithPacket chosen bytes → h.length + 7 ≤ length bytes
long_packet chosen h bytes has begins =
    let here = sym (ap (front chosen) (whole_header h bytes has) ∙ front-header chosen h (drop 6 bytes) has.fields) ∙ begins.is in
    let long = from_long (h.length + 1) (length (drop 6 bytes)) (by_checks-Good (h.version == 0) (is_misshapen chosen h) (nat_le (h.length + 1) (length (drop 6 bytes))) _ begins.packet _ begins.rest here).2 in
    omega (arith, long, length-drop 6 bytes)

-- so what depends only on whether that many bytes are ahead is unchanged
pub untouched : {X : Type 0} {x y z : X} {h : Header} {before after : List ℕ} {a b : Meanings} (chosen : Option ℕ) → BeginsWithPacket chosen before → ReadsOn before after a b → HasHeader h after → (6 ≤ length before → y ≡ x) → (h.length + 7 ≤ length after → z ≡ y) → z ≡ x
untouched {h = h} {before = before} chosen begins read has first then =
    let long = long_header chosen before begins in
    let here : HasHeader h before = record { fields = has.fields; spelled = sym (take-append-le 6 before read.bytes long) ∙ (ap (take 6) (sym read.joined) ∙ has.spelled) } in
    let whole = long_packet chosen h before here begins in
    then (omega (arith, whole, ap length read.joined, length-append before read.bytes)) ∙ first long

-- ---- no packet is read

-- what is ahead and left is as before
same_input : (s : ReaderState) (ahead : List ℕ) (a b : Meanings) (read : ReadsOn s.ahead ahead a b) (rest : List ℕ) → s.ahead ++ (read.bytes ++ rest) ≡ ahead ++ rest
same_input s ahead a b read rest = sym (append_assoc s.ahead read.bytes rest) ∙ ap (λ l. l ++ rest) (sym read.joined)

Stops-bad : (s : ReaderState) (ahead : List ℕ) (a b : Meanings) (rest : List ℕ) (byte : ℕ) (why : StoreKind) → s.taken < 2 ^ 32 → ReadsOn s.ahead ahead a b → IfSome (left b inlet.Main) (λ bytes. bytes ≡ rest)
    → byte ≡ s.offset → front s.chosen (ahead ++ rest) ≡ Bad why → Stops s ahead a b (fault.Bad byte why)
Stops-bad s ahead a b rest byte why few read told place is = record {
  taken = read.bytes;
  rest = rest;
  moved = read.moved;
  kept = read.joined;
  told = told;
  ends = ap (walk_from s.chosen s.taken s.offset) (same_input s ahead a b read rest) ∙ (walk_from-bad s.chosen s.taken s.offset (ahead ++ rest) why is few ∙ ap (λ n. stopped_at (fault.Bad n why) (ahead ++ rest)) (sym place));
}

Waits-early : (s : ReaderState) (ahead : List ℕ) (a b : Meanings) → ReadsOn s.ahead ahead a b → ((walk_from s.chosen s.taken s.offset ahead).packets ≡ []) × IsOnlyCut (walk_from s.chosen s.taken s.offset ahead).ending → Waits s ahead a b
Waits-early s ahead a b read early =
    let here = subst (λ bytes. ((walk_from s.chosen s.taken s.offset bytes).packets ≡ []) × IsOnlyCut (walk_from s.chosen s.taken s.offset bytes).ending) read.joined early in
    record { taken = read.bytes; moved = read.moved; kept = read.joined; none = here.0; early = here.1 }

-- no good packet is there
pub AfterFault-unread : (s : ReaderState) (ahead : List ℕ) (a b : Meanings) (reason : StoreFault) → s.taken < 2 ^ 32 → ReadsOn s.ahead ahead a b → AfterUnread s.chosen s.offset ahead b reason → AfterFault s ahead a b reason
AfterFault-unread s ahead a b (Cut byte) few read (place, cut, at_end) = Stops-bad s ahead a b [] byte kind.Cut few read (IfSome-IsAtEnd (left b inlet.Main) at_end) place (ap (front s.chosen) (append-nil ahead) ∙ cut)
AfterFault-unread s ahead a b (Version byte) few read (place, bad) = Stops-bad s ahead a b (rest_of (left b inlet.Main)) byte kind.Version few read (IfSome-rest_of (left b inlet.Main)) place (bad (rest_of (left b inlet.Main)))
AfterFault-unread s ahead a b (Shape byte) few read (place, bad) = Stops-bad s ahead a b (rest_of (left b inlet.Main)) byte kind.Shape few read (IfSome-rest_of (left b inlet.Main)) place (bad (rest_of (left b inlet.Main)))
AfterFault-unread s ahead a b TooMany few read none = absurd none
AfterFault-unread s ahead a b ReadFault few read early = Waits-early s ahead a b read (walk_from-early s.chosen s.taken s.offset ahead few early)

-- a read failed while nothing was ahead
pub Waits-none : (s : ReaderState) (ahead : List ℕ) (a b : Meanings) → ReadsOn s.ahead ahead a b → length ahead < 1 → Waits s ahead a b
Waits-none s [] a b read none = Waits-early s [] a b read (subst (λ (w : Walk). (w.packets ≡ []) × IsOnlyCut w.ending) (sym (walk_from-none s.chosen s.taken s.offset)) (refl, tt))
Waits-none s (x ∷ ahead) a b read none = absurd (omega arith)

-- a byte is ahead after the last packet that may be given
pub Stops-too_many : (s : ReaderState) (ahead : List ℕ) (a b : Meanings) → s.taken ≡ 2 ^ 32 → ReadsOn s.ahead ahead a b → 1 ≤ length ahead → Stops s ahead a b fault.TooMany
Stops-too_many s [] a b full read some = absurd (omega arith)
Stops-too_many s (x ∷ ahead) a b full read some =
    let rest = rest_of (left b inlet.Main) in
    record {
      taken = read.bytes;
      rest = rest;
      moved = read.moved;
      kept = read.joined;
      told = IfSome-rest_of (left b inlet.Main);
      ends = ap (walk_from s.chosen s.taken s.offset) (same_input s (x ∷ ahead) a b read rest) ∙ walk_from-too_many s.chosen s.taken s.offset x (ahead ++ rest) full;
    }

-- ---- nothing is left

-- nothing was ahead, nothing was read, and the desk was at its end before
pub record IsOver (before : List ℕ) (a b : Meanings) : Type 0 where
  pub none : before ≡ []
  pub moved : Moves a b inlet.Main []
  pub at_end : IsAtEnd (left a inlet.Main)

no_bytes : (xs ys : List ℕ) → [] ≡ xs ++ ys → (xs ≡ []) × (ys ≡ [])
no_bytes [] ys is = (refl, sym is)
no_bytes (x ∷ xs) ys is = absurd cc

pub IsOver-read : (before after : List ℕ) (a b : Meanings) → ReadsOn before after a b → after ≡ [] → IsAtEnd (left b inlet.Main) → IsOver before a b
IsOver-read before after a b read empty at_end =
    let parts = no_bytes before read.bytes (sym empty ∙ read.joined) in
    let moved = subst (Moves a b inlet.Main) parts.1 read.moved in
    record { none = parts.0; moved = moved; at_end = subst IsAtEnd (prepend_known-none (left b inlet.Main) ∙ sym moved.moved) at_end }

-- ---- a packet is read

packet_bytes-front : (h : Header) (bytes : List ℕ) → take 6 bytes ≡ header_of h → take (h.length + 7) bytes ≡ packet_bytes (front_packet h bytes)
packet_bytes-front h bytes spelled =
    let held = take (h.length + 7) bytes in
    sym (take-append-drop 6 held) ∙ ap (λ l. l ++ drop 6 held) (take-take 6 (h.length + 7) bytes (omega arith) ∙ spelled)

pub TakesPacket-read : (s : ReaderState) (h : Header) (held : ℕ) (input : List ℕ) (given : Taken) (a b : Meanings) → s.live ≡ true → s.taken < 2 ^ 32 → h.length + 7 ≡ held
    → IsGood s.chosen (front_packet h input) → take 6 input ≡ header_of h → ReadsOn s.ahead input a b
    → given.chosen ≡ is_chosen s.chosen h → given.count ≡ h.count → TakesPacket s (reader_state s.chosen (s.taken + 1) (s.offset + held) true held input) a b given
TakesPacket-read s h held input given a b live few size good header read chosen count =
    let n = h.length + 7 in
    let p = front_packet h input in
    let spelled = packet_bytes-front h input header in
    let long : n ≡ length (packet_bytes p) = omega (arith, good.whole, length-append (header_of h) p.body) in
    let place : s.offset + length (packet_bytes p) ≡ s.offset + n = ap (λ k. s.offset + k) (sym long) in
    let split = sym (take-append-drop n input) in
    let all : TakesPacket s (reader_state s.chosen (s.taken + 1) (s.offset + n) true n input) a b given = record {
      header = h;
      good = good;
      packet = spelled;
      taken = read.bytes;
      moved = read.moved;
      joined = sym read.joined ∙ split;
      is_chosen = chosen;
      count = count;
      few = few;
      others = λ i. record s { taken = s.taken + 1; offset = s.offset + (long ∙ ap length (sym spelled)) i; live = sym live i; packet = take n input; body = p.body; ahead = drop n input };
      goes_on = λ rest.
          ap (walk_from s.chosen s.taken s.offset) (same_input s input a b read rest ∙ (ap (λ l. l ++ rest) split ∙ (append_assoc (take n input) (drop n input) rest ∙ ap (λ l. l ++ (drop n input ++ rest)) spelled)))
          ∙ (walk_from-good s.chosen s.taken s.offset p (drop n input ++ rest) good few ∙ ap (λ k. packet_first p (walk_from s.chosen (s.taken + 1) k (drop n input ++ rest))) place);
    } in
    subst (λ k. TakesPacket s (reader_state s.chosen (s.taken + 1) (s.offset + k) true k input) a b given) size all
