-- The listing of a store: a line for each arrival, with one before it for lost numbers, and a last line.
use Rattle.std.specs.Prelude.{◌≡◌, ◌==◌, ℕ, ◌*◌, ◌++◌, Bool, true, false, if◌then◌else◌, List, [], codes, Option, Some, None, unwrap_or, vec_len}
use Rattle.std.specs.Fmt.{decimal}
use Rattle.std.specs.List.{flat_map}
use Rattle.std.specs.Vec.{vec_capacity}
use Rattle.bit_vectors.specs.declared.fault.BitFault.TheVariants.{Wrong, EndsEarly}
use Rattle.bit_vectors.specs.Vectors.{byte_count, vector_bytes}
use Rattle.desk_ports.specs.Courses.{Course, Work, to_output}
use Rattle.hex.specs.Hex.{encode_lower}
use Rattle.packet_decode.specs.State.{KnownVector, State, Change, Decoding, latest_content}
use Rattle.packet_store.specs.declared.fault.WalkFault.{WalkFault}
use Rattle.packet_store.specs.Walks.{walk}
use Rattle.ground_chain.specs.declared.listing.Listing.{Listing}
use Rattle.ground_chain.specs.declared.restored.Restored.{Restored}
use Rattle.ground_chain.specs.declared.verdict.Lost.{Lost}
use Rattle.ground_chain.specs.declared.verdict.Kind.{Kind}
use Rattle.ground_chain.specs.declared.verdict.Kind.TheVariants.{Written, Repeat, Unsynced, Gap, Refused}
use Rattle.ground_chain.specs.declared.verdict.Verdict.{Verdict}
use Rattle.ground_chain.specs.Run.{Judged}
use Rattle.ground_chain.specs.Report.{number_row, own_row, restored_of, Texts}
use Rattle.ground_chain.specs.Restoring.{store_run, store_work}

-- ---- an arrival

-- a vector: its bytes in hexadecimal digits, of which the letters are small
abbrev pub vector_digits : List Bool → List ℕ
vector_digits vector = encode_lower (vector_bytes vector)

-- a mask, or a dash if it did not become known
abbrev pub mask_text : Option (List Bool) → List ℕ
mask_text None = codes "-"
mask_text (Some mask) = vector_digits mask

-- the vectors of a written packet: its recent changes, its mask and its content
abbrev pub vectors_text : List Bool → Option (List Bool) → List Bool → List ℕ
vectors_text recent mask content = vector_digits recent ++ codes " " ++ mask_text mask ++ codes " " ++ vector_digits content ++ codes "\n"

-- the vector that became known with the packet t
abbrev pub known_with : ℕ → Option KnownVector → Option (List Bool)
known_with t None = None
known_with t (Some known) = if known.number == t then Some known.vector else None

-- those of a decoder's latest written packet, which is t
abbrev pub latest_vectors : ℕ → Decoding → List ℕ
latest_vectors t decoder = vectors_text decoder.recent (known_with t decoder.state.mask) (latest_content decoder.places decoder.state)

-- those of a written packet, by its first part
abbrev pub packet_vectors : Option Change → ℕ → State → Option KnownVector → List ℕ
packet_vectors (Some change) t state (Some known) = vectors_text change.recent (known_with t state.mask) known.vector
packet_vectors (Some change) t state None = []
packet_vectors None t state content = []

-- the mask that became known with the packet t, if that alone did
abbrev pub mask_line : ℕ → Option KnownVector → List ℕ
mask_line t part = mask_text (known_with t part) ++ codes "\n"

abbrev pub change_level : Option Change → ℕ
change_level None = 0
change_level (Some change) = change.level

-- what is said after the number of an arrival, up to its vectors; of a written packet with its level
abbrev pub kind_text : Kind → ℕ → List ℕ
kind_text Written level = codes " written " ++ (decimal level ++ codes " ")
kind_text Repeat level = codes " repeat\n"
kind_text (Unsynced false) level = codes " unsynced\n"
kind_text (Unsynced true) level = codes " unsynced mask "
kind_text (Gap reached false) level = codes " gap " ++ (decimal reached ++ codes "\n")
kind_text (Gap reached true) level = codes " gap " ++ (decimal reached ++ codes " mask ")
kind_text (Refused (Wrong bit)) level = codes " wrong " ++ (decimal bit ++ codes "\n")
kind_text (Refused (EndsEarly bit)) level = codes " early " ++ (decimal bit ++ codes "\n")

-- its vectors: those of a written packet, or the mask if that alone became known
abbrev pub kind_vectors : Kind → List ℕ → List ℕ → List ℕ
kind_vectors Written packet mask = packet
kind_vectors Repeat packet mask = []
kind_vectors (Unsynced false) packet mask = []
kind_vectors (Unsynced true) packet mask = mask
kind_vectors (Gap reached false) packet mask = []
kind_vectors (Gap reached true) packet mask = mask
kind_vectors (Refused fault) packet mask = []

abbrev pub own_vectors : Judged → List ℕ
own_vectors judged = kind_vectors judged.verdict.kind (packet_vectors judged.change judged.verdict.t judged.after.state judged.after.state.content) (mask_line judged.verdict.t judged.after.state.mask)

-- the same as a decoder has them
abbrev pub shown_vectors : Verdict → Decoding → List ℕ
shown_vectors verdict decoder = kind_vectors verdict.kind (latest_vectors verdict.t decoder) (mask_line verdict.t decoder.state.mask)

-- the line of an arrival
abbrev pub own_line : Judged → List ℕ
own_line judged = decimal judged.verdict.t ++ (kind_text judged.verdict.kind (change_level judged.change) ++ own_vectors judged)

-- the line of the numbers that did not arrive
abbrev pub lost_line : Option Lost → List ℕ
lost_line None = []
lost_line (Some lost) = decimal lost.first ++ codes "-" ++ decimal lost.last ++ codes " lost\n"

-- the lines of an arrival: what was lost before it, and then itself
abbrev pub judged_lines : Judged → List ℕ
judged_lines judged = lost_line judged.verdict.lost ++ own_line judged

-- what a line says of a cause, of the value that belongs to it, if there is one, and of a mask that became known
abbrev pub cause_text : List ℕ → Option ℕ → Option (List ℕ) → List ℕ
cause_text cause None None = codes " " ++ cause ++ codes "\n"
cause_text cause (Some value) None = codes " " ++ cause ++ codes " " ++ decimal value ++ codes "\n"
cause_text cause None (Some mask) = codes " " ++ cause ++ codes " mask " ++ mask
cause_text cause (Some value) (Some mask) = codes " " ++ cause ++ codes " " ++ decimal value ++ codes " mask " ++ mask

-- the row and the line of an arrival name one cause and one value, which is 0 in the row of a line that has none
pub record IsToldAlike (judged : Judged) : Type 0 where
  pub cause : List ℕ
  pub value : Option ℕ
  pub mask : Option (List ℕ)
  pub row : own_row judged.verdict.t judged.verdict.kind ≡ number_row judged.verdict.t cause (unwrap_or value 0)
  pub line : own_line judged ≡ decimal judged.verdict.t ++ cause_text cause value mask

-- ---- the listing

-- the lines of a run, arrival by arrival
abbrev pub run_lines : List Judged → List ℕ
run_lines judged = flat_map judged_lines judged

-- the last line: arrivals, written packets and repeats
abbrev pub end_line : Restored → List ℕ
end_line r = codes "end " ++ decimal r.packets ++ codes " " ++ decimal r.written ++ codes " " ++ decimal r.repeats ++ codes "\n"

-- the listing of a run
abbrev pub run_listing : List Judged → List ℕ
run_listing judged = run_lines judged ++ end_line (restored_of judged)

-- What listing a store owes: the lines of the arrivals before the end, the last line if the store is whole, and
-- otherwise the fault of its walk.
abbrev pub listing_course : ℕ → ℕ → List ℕ → Course WalkFault
listing_course f apid store = record {
  before = to_output (run_lines (store_run f apid store));
  after = to_output (end_line (restored_of (store_run f apid store)));
  ending = (walk (Some apid) store).ending;
}

-- the work of listing a store
abbrev pub listing_work : ℕ → ℕ → Work Restored WalkFault
listing_work f apid = store_work (listing_course f apid) f apid

-- what is written of the arrivals: their lines
abbrev pub listed_texts : Texts
listed_texts = record { parts = λ judged. to_output (judged_lines judged); last = λ restored. to_output (end_line restored) }

-- there is room for the bytes of a vector of f places, and for their digits, and never more room, so that no memory is
-- taken
pub record HasVectorRoom (listing : Listing) (f : ℕ) : Type 0 where
  pub bytes : vec_len listing.bytes ≡ byte_count f
  pub digits : vec_len listing.digits ≡ 2 * byte_count f
  pub bytes_taken : vec_capacity listing.bytes ≡ byte_count f
  pub digits_taken : vec_capacity listing.digits ≡ 2 * byte_count f

-- ---- a line in pieces

-- a word, a number, and what stands after it
abbrev pub line_with : List ℕ → ℕ → List ℕ → List ℕ
line_with word value after = word ++ (decimal value ++ after)

-- the line of an arrival up to its vectors
abbrev pub own_front : ℕ → Kind → ℕ → List ℕ
own_front t kind level = decimal t ++ kind_text kind level

-- the same with the line of what was lost before it
abbrev pub front_line : Verdict → ℕ → List ℕ
front_line verdict level = lost_line verdict.lost ++ own_front verdict.t verdict.kind level
