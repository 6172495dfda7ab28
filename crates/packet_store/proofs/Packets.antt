-- What is at the front of bytes, for every reader of them.
use Rattle.std.proofs.Common.{◌≡◌, refl, [], ◌∷◌, Bool, true, false, ◌==◌, nat_le, ℕ, ◌+◌, ◌*◌, ◌/◌, ◌%◌, ◌^◌, ◌<◌, ◌≤◌, List, ◌++◌, length, take, drop, All, Option, Some, None, sym, ap, subst, ◌∙◌, length-take, length-drop, arith}
use Rattle.std.proofs.lemmas.List.{length-take-le, take-append-drop, take_at, drop_at}
use Rattle.std.proofs.lemmas.List.Elements.{All-take, All-drop}
use Rattle.std.proofs.lemmas.Grind.{common_steps}
use Rattle.packet_store.specs.declared.header.Header.{Header}
use Rattle.packet_store.specs.SpacePackets.{IsHeader, IsPacket, Packet, bit, header_of, header_at, packet_bytes, plain_header, plain_packet, is_misshapen}
use Rattle.packet_store.specs.Walks.{IsGood, Good, by_checks, front_after, front}
use Rattle.packet_store.specs.StoreReader.{front_packet}

is_one : (n : ℕ) → n ≡ 1 → (n == 1) ≡ true
is_one n e = ap (λ m. m == 1) e

is_none : (n : ℕ) → n ≡ 0 → (n == 1) ≡ false
is_none n e = ap (λ m. m == 1) e

-- six bytes of a header spell it
first_bits : (v : ℕ) (t s : Bool) (a : ℕ) → a < 8 → ((v * 2 ^ 5 + bit t * 2 ^ 4 + bit s * 2 ^ 3 + a) / 2 ^ 5 ≡ v) × (((v * 2 ^ 5 + bit t * 2 ^ 4 + bit s * 2 ^ 3 + a) / 2 ^ 4 % 2 == 1) ≡ t) × (((v * 2 ^ 5 + bit t * 2 ^ 4 + bit s * 2 ^ 3 + a) / 2 ^ 3 % 2 == 1) ≡ s) × ((v * 2 ^ 5 + bit t * 2 ^ 4 + bit s * 2 ^ 3 + a) % 2 ^ 3 ≡ a)
first_bits v true true a low = (omega arith, is_one _ (omega arith), is_one _ (omega arith), omega arith)
first_bits v true false a low = (omega arith, is_one _ (omega arith), is_none _ (omega arith), omega arith)
first_bits v false true a low = (omega arith, is_none _ (omega arith), is_one _ (omega arith), omega arith)
first_bits v false false a low = (omega arith, is_none _ (omega arith), is_none _ (omega arith), omega arith)

pub header_at-header_of : (h : Header) → IsHeader h
    → header_at (h.version * 2 ^ 5 + bit h.telecommand * 2 ^ 4 + bit h.secondary * 2 ^ 3 + h.apid / 256) (h.apid % 256) (h.sequence * 2 ^ 6 + h.count / 256) (h.count % 256) (h.length / 256) (h.length % 256) ≡ h
header_at-header_of h fields =
    let high : h.apid / 256 < 8 = omega (arith, fields.apid_bits) in
    let first = first_bits h.version h.telecommand h.secondary (h.apid / 256) high in
    let apid : (h.version * 2 ^ 5 + bit h.telecommand * 2 ^ 4 + bit h.secondary * 2 ^ 3 + h.apid / 256) % 2 ^ 3 * 256 + h.apid % 256 ≡ h.apid = ap (λ n. n * 256 + h.apid % 256) first.3 ∙ omega arith in
    let sequence : (h.sequence * 2 ^ 6 + h.count / 256) / 2 ^ 6 ≡ h.sequence = omega (arith, fields.count_bits) in
    let count : (h.sequence * 2 ^ 6 + h.count / 256) % 2 ^ 6 * 256 + h.count % 256 ≡ h.count = omega (arith, fields.count_bits) in
    let length : h.length / 256 * 256 + h.length % 256 ≡ h.length = omega arith in λ i.
    record {
      version = first.0 i;
      telecommand = first.1 i;
      secondary = first.2 i;
      apid = apid i;
      sequence = sequence i;
      count = count i;
      length = length i;
    }

is_long : (n : ℕ) (xs ys : List ℕ) → length xs ≡ n → nat_le n (length (xs ++ ys)) ≡ true
is_long n xs ys e = grind (arith, common_steps)

is_zero : (n : ℕ) → n ≡ 0 → (n == 0) ≡ true
is_zero n e = ap (λ m. m == 0) e

-- a good packet is read back, whatever follows it
pub front-good : (chosen : Option ℕ) (p : Packet) (rest : List ℕ) → IsGood chosen p → front chosen (packet_bytes p ++ rest) ≡ Good p rest
front-good chosen p rest good =
    let behind = p.body ++ rest in
    let version = is_zero p.header.version good.version in
    let long = is_long (p.header.length + 1) p.body rest good.whole in
    let taken = take_at p.body rest (p.header.length + 1) good.whole in
    let left = drop_at p.body rest (p.header.length + 1) good.whole in
    let checked : front_after chosen p.header behind ≡ Good p rest = λ i. by_checks (version i) (good.shape i) (long i) (Good (record { header = p.header; body = taken i }) (left i)) in
    ap (λ h. front_after chosen h behind) (header_at-header_of p.header good.fields) ∙ checked

pub by_checks-Good : (v s l : Bool) (q p : Packet) (left rest : List ℕ) → by_checks v s l (Good q left) ≡ Good p rest → (v ≡ true) × (s ≡ false) × (l ≡ true) × (q ≡ p) × (left ≡ rest)
by_checks-Good false s l q p left rest e = absurd cc
by_checks-Good true true l q p left rest e = absurd cc
by_checks-Good true false false q p left rest e = absurd cc
by_checks-Good true false true q p left rest e = (refl, refl, refl, cc, cc)

from_zero : (n : ℕ) → (n == 0) ≡ true → n ≡ 0
from_zero n e = grind (arith, common_steps)

pub from_long : (m n : ℕ) → nat_le m n ≡ true → m ≤ n
from_long m n e = grind (arith, common_steps)

-- six bytes are those of the header that they spell
header_of-header_at : (a b c d e f : ℕ) → a < 256 → b < 256 → c < 256 → d < 256 → e < 256 → f < 256 → header_of (header_at a b c d e f) ≡ a ∷ b ∷ c ∷ d ∷ e ∷ f ∷ []
header_of-header_at a b c d e f ua ub uc ud ue uf = grind (arith, common_steps)

IsHeader-header_at : (a b c d e f : ℕ) → a < 256 → b < 256 → c < 256 → d < 256 → e < 256 → f < 256 → IsHeader (header_at a b c d e f)
IsHeader-header_at a b c d e f ua ub uc ud ue uf = record { version_bits = omega arith; apid_bits = omega arith; sequence_bits = omega arith; count_bits = omega arith; length_bits = omega arith }

-- what is read as a good packet is one, and the bytes begin with it
pub front-Good : (chosen : Option ℕ) (bytes : List ℕ) (p : Packet) (rest : List ℕ) → All (λ b. b < 256) bytes → front chosen bytes ≡ Good p rest → IsGood chosen p × (bytes ≡ packet_bytes p ++ rest)
front-Good chosen (a ∷ b ∷ c ∷ d ∷ e ∷ f ∷ bytes) p rest all read =
    let byte = λ (k : ℕ) (within : k < length (a ∷ b ∷ c ∷ d ∷ e ∷ f ∷ bytes)). all k 0 within in
    let h = header_at a b c d e f in
    let size = h.length + 1 in
    let q : Packet = record { header = h; body = take size bytes } in
    let checks = by_checks-Good (h.version == 0) (is_misshapen chosen h) (nat_le size (length bytes)) q p (drop size bytes) rest read in
    let long = from_long size (length bytes) checks.2 in
    let spelled = header_of-header_at a b c d e f (byte 0 (omega arith)) (byte 1 (omega arith)) (byte 2 (omega arith)) (byte 3 (omega arith)) (byte 4 (omega arith)) (byte 5 (omega arith)) in
    let good : IsGood chosen q = record {
      fields = IsHeader-header_at a b c d e f (byte 0 (omega arith)) (byte 1 (omega arith)) (byte 2 (omega arith)) (byte 3 (omega arith)) (byte 4 (omega arith)) (byte 5 (omega arith));
      version = from_zero h.version checks.0;
      shape = checks.1;
      whole = length-take-le size bytes long;
      bytes = All-take (λ n. n < 256) size bytes (All-drop (λ n. n < 256) 6 (a ∷ b ∷ c ∷ d ∷ e ∷ f ∷ bytes) all);
    } in
    let joined : packet_bytes q ++ drop size bytes ≡ a ∷ b ∷ c ∷ d ∷ e ∷ f ∷ bytes = ap (λ l. (l ++ take size bytes) ++ drop size bytes) spelled ∙ ap (λ l. a ∷ b ∷ c ∷ d ∷ e ∷ f ∷ l) (take-append-drop size bytes) in
    (subst (IsGood chosen) checks.3 good, sym joined ∙ (ap (λ x. packet_bytes x ++ drop size bytes) checks.3 ∙ ap (λ l. packet_bytes p ++ l) checks.4))
front-Good chosen bytes p rest all read = absurd cc

-- after a good packet fewer bytes are left
pub front-shorter : (chosen : Option ℕ) (bytes : List ℕ) (p : Packet) (rest : List ℕ) → front chosen bytes ≡ Good p rest → length rest < length bytes
front-shorter chosen (a ∷ b ∷ c ∷ d ∷ e ∷ f ∷ bytes) p rest read =
    let h = header_at a b c d e f in
    let size = h.length + 1 in
    let q : Packet = record { header = h; body = take size bytes } in
    let checks = by_checks-Good (h.version == 0) (is_misshapen chosen h) (nat_le size (length bytes)) q p (drop size bytes) rest read in
    omega (arith, ap length checks.4, length-drop size bytes)
front-shorter chosen bytes p rest read = absurd cc

Good-same : (p q : Packet) (left rest : List ℕ) → Good p left ≡ Good q rest → (p ≡ q) × (left ≡ rest)
Good-same p q left rest e = (cc, cc)

-- equal bytes begin with equal good packets
pub packet_bytes-same : (chosen : Option ℕ) (p q : Packet) (left rest : List ℕ) → IsGood chosen p → IsGood chosen q → packet_bytes p ++ left ≡ packet_bytes q ++ rest → (p ≡ q) × (left ≡ rest)
packet_bytes-same chosen p q left rest one other e = Good-same p q left rest (sym (front-good chosen p left one) ∙ (ap (front chosen) e ∙ front-good chosen q rest other))

plain_shape : (chosen : Option ℕ) (apid count size : ℕ) → is_misshapen chosen (plain_header apid count size) ≡ false
plain_shape None apid count size = refl
plain_shape (Some other) apid count size = grind (arith, common_steps)

-- a packet of the one shape is a good one, whatever APID is chosen
pub IsGood-plain : (chosen : Option ℕ) (apid count : ℕ) (body : List ℕ) → IsPacket apid count body → IsGood chosen (plain_packet apid count body)
IsGood-plain chosen apid count body packet = record {
  fields = record { version_bits = omega arith; apid_bits = omega (arith, packet.chosen); sequence_bits = omega arith; count_bits = omega (arith, packet.counted); length_bits = omega (arith, packet.most, packet.some) };
  version = refl;
  shape = plain_shape chosen apid count (length body);
  whole = omega (arith, packet.some);
  bytes = packet.bytes;
}

-- a packet that is whole at the front of some bytes
pub IsGood-at : (chosen : Option ℕ) (h : Header) (bytes : List ℕ) → IsHeader h → h.version ≡ 0 → is_misshapen chosen h ≡ false → h.length + 7 ≤ length bytes → All (λ b. b < 256) bytes → IsGood chosen (front_packet h bytes)
IsGood-at chosen h bytes fields version shape long all = record {
  fields = fields;
  version = version;
  shape = shape;
  whole = simp (length-drop, length-take) (omega arith);
  bytes = All-drop (λ b. b < 256) 6 (take (h.length + 7) bytes) (All-take (λ b. b < 256) (h.length + 7) bytes all);
}
