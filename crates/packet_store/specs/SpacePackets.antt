-- Space Packets (CCSDS 133.0-B-2): primary headers, and packets of the one shape of this profile (version 0, telemetry,
-- no secondary header, unsegmented).
use Rattle.std.specs.Prelude.{ℕ, ◌+◌, ◌-◌, ◌*◌, ◌/◌, ◌%◌, ◌^◌, ◌<◌, ◌≤◌, Bool, false, not, ◌&&◌, ◌==◌, if◌then◌else◌, List, [], ◌∷◌, ◌++◌, length, All, Option, Some, None}
use Rattle.std.specs.List.{flat_map}
use Rattle.packet_store.specs.declared.header.Header.{Header}

-- the number of different sequence counts: after the last count the first comes again
abbrev pub period : ℕ
period = 16384

-- the fields are within their bits
pub record IsHeader (h : Header) : Type 0 where
  pub version_bits : h.version < 2 ^ 3
  pub apid_bits : h.apid < 2 ^ 11
  pub sequence_bits : h.sequence < 2 ^ 2
  pub count_bits : h.count < 2 ^ 14
  pub length_bits : h.length < 2 ^ 16

abbrev pub bit : Bool → ℕ
bit b = if b then 1 else 0

-- the six bytes of a primary header, the most significant bit first
abbrev pub header_of : Header → List ℕ
header_of h =
    (h.version * 2 ^ 5 + bit h.telecommand * 2 ^ 4 + bit h.secondary * 2 ^ 3 + h.apid / 256) ∷ h.apid % 256
    ∷ (h.sequence * 2 ^ 6 + h.count / 256) ∷ h.count % 256
    ∷ h.length / 256 ∷ h.length % 256 ∷ []

-- the fields that six bytes spell
abbrev pub header_at : ℕ → ℕ → ℕ → ℕ → ℕ → ℕ → Header
header_at a b c d e f = record {
  version = a / 2 ^ 5;
  telecommand = a / 2 ^ 4 % 2 == 1;
  secondary = a / 2 ^ 3 % 2 == 1;
  apid = a % 2 ^ 3 * 256 + b;
  sequence = c / 2 ^ 6;
  count = c % 2 ^ 6 * 256 + d;
  length = e * 256 + f;
}

-- the header of a packet of the one shape with this many data bytes
abbrev pub plain_header : ℕ → ℕ → ℕ → Header
plain_header apid count size = record {
  version = 0;
  telecommand = false;
  secondary = false;
  apid = apid;
  sequence = 3;
  count = count;
  length = size - 1;
}

abbrev pub header_bytes : ℕ → ℕ → ℕ → List ℕ
header_bytes apid count size = header_of (plain_header apid count size)

-- a packet: its primary header and its data bytes
pub record Packet : Type 0 where
  pub header : Header
  pub body : List ℕ

abbrev pub packet_bytes : Packet → List ℕ
packet_bytes p = header_of p.header ++ p.body

-- the packet of the one shape of an APID with this count and these data bytes
abbrev pub plain_packet : ℕ → ℕ → List ℕ → Packet
plain_packet apid count body = record { header = plain_header apid count (length body); body = body }

abbrev pub space_packet : ℕ → ℕ → List ℕ → List ℕ
space_packet apid count body = packet_bytes (plain_packet apid count body)

-- there is such a packet; the APID 2047 is that of idle packets
pub record IsPacket (apid count : ℕ) (body : List ℕ) : Type 0 where
  pub chosen : apid ≤ 2046
  pub counted : count < period
  pub some : 1 ≤ length body
  pub most : length body ≤ 65536
  pub bytes : All (λ b. b < 256) body

-- packets of the one shape and of one APID, one after another: each has its count and its data bytes
abbrev pub store_bytes : ℕ → List (ℕ × List ℕ) → List ℕ
store_bytes apid packets = flat_map (λ p. space_packet apid p.0 p.1) packets

-- the header has the chosen APID, if one is chosen
abbrev pub is_chosen : Option ℕ → Header → Bool
is_chosen None h = false
is_chosen (Some apid) h = h.apid == apid

-- the header has the chosen APID and is not of the one shape
abbrev pub is_misshapen : Option ℕ → Header → Bool
is_misshapen chosen h = is_chosen chosen h && not (not h.telecommand && not h.secondary && h.sequence == 3)
