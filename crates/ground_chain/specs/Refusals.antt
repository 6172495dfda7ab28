-- What a refusal says of the data of an arrival, and when an arrival that is not written can be taken out.
use Rattle.std.specs.Prelude.{◌≡◌, ℕ, ◌+◌, ◌<◌, ◌≤◌, Bool, true, false, not, if◌then◌else◌, List, [], ◌∷◌, ◌++◌, All, length, Option, Some, None, Result, ⊤}
use Rattle.std.specs.Fmt.{decimal}
use Rattle.std.specs.List.{flat_map}
use Rattle.bit_vectors.specs.declared.fault.BitFault.{BitFault}
use Rattle.bit_vectors.specs.Vectors.{AreBytes, bits_of}
use Rattle.packet_decode.specs.declared.decoder.Reading.{Reading}
use Rattle.packet_decode.specs.State.{State}
use Rattle.packet_decode.specs.Answers.{IsExactAnswer}
use Rattle.packet_store.specs.SpacePackets.{period}
use Rattle.ground_chain.specs.declared.verdict.Kind.{Kind}
use Rattle.ground_chain.specs.declared.verdict.Kind.TheVariants.{Written, Repeat, Unsynced, Gap, Refused}
use Rattle.ground_chain.specs.declared.verdict.Verdict.{Verdict}
use Rattle.ground_chain.specs.Run.{number_after, Arrival, Judged, judge, known_after, verdict_of}
use Rattle.ground_chain.specs.Report.{is_written_kind, number_row, own_row}
use Rattle.ground_chain.specs.Reception.{Reception}
use Rattle.ground_chain.specs.Listing.{cause_text, own_line}

-- ---- the verdict of an arrival that is no repeat

-- the verdict is that of an exact answer to these data bytes, as those of the packet with the number t
pub record IsExactVerdict (r : Reception) (body : List ℕ) (verdict : Verdict) (t : ℕ) : Type 0 where
  pub answer : Result Reading BitFault
  pub exact : IsExactAnswer r.decoder.places r.decoder.state t (bits_of body) answer
  pub is : verdict ≡ verdict_of r.latest t answer

-- ---- the first wrong bit

-- the packet is written, or it is listed as one that can't be understood
abbrev pub is_taken_or_listed : Kind → Bool
is_taken_or_listed Written = true
is_taken_or_listed Repeat = false
is_taken_or_listed (Unsynced mask) = true
is_taken_or_listed (Gap level mask) = true
is_taken_or_listed (Refused fault) = false

-- After these arrivals, the bits are the first of some data that the ground would take or list as those of the next
-- arrival, which has this sequence count. Data are 65,536 bytes at most.
pub record BeginData (f : ℕ) (before : List Arrival) (count : ℕ) (front : List Bool) : Type 0 where
  pub body : List ℕ
  pub bytes : AreBytes body
  pub size : length body ≤ 65536
  pub rest : List Bool
  pub begins : bits_of body ≡ front ++ rest
  pub taken : is_taken_or_listed (judge f (known_after f before) (record { count = count; body = body })).verdict.kind ≡ true

-- the report's row of an arrival names its number, this cause and this value
abbrev pub SaysRow : Judged → List ℕ → ℕ → Type 0
SaysRow judged cause value = own_row judged.verdict.t judged.verdict.kind ≡ number_row judged.verdict.t cause value

-- and so does the listing's line of it
abbrev pub SaysLine : Judged → List ℕ → ℕ → Type 0
SaysLine judged cause value = own_line judged ≡ decimal judged.verdict.t ++ cause_text cause (Some value) None

-- ---- what a run writes

-- the written packets of a run, each as what is known after it: the content with its number, and the latest mask
abbrev pub run_written : List Judged → List State
run_written judged = flat_map (λ j. if is_written_kind j.verdict.kind then j.after.state ∷ [] else []) judged

-- ---- taking out an arrival

-- it is refused, or neither its mask nor its content became known
abbrev pub is_untold : Kind → Bool
is_untold Written = false
is_untold Repeat = false
is_untold (Unsynced mask) = not mask
is_untold (Gap level mask) = not mask
is_untold (Refused fault) = true

-- less than a period above the latest number, or below the period if there is none
abbrev pub IsWithinPeriod : Option ℕ → ℕ → Type 0
IsWithinPeriod None t = t < period
IsWithinPeriod (Some latest) t = t < latest + period

-- After the packet with the number t no arrival comes, or the next one is no repeat of it and has a number within a period
-- of an earlier one.
abbrev pub IsNearNext : Option ℕ → ℕ → List Arrival → Type 0
IsNearNext earlier t [] = ⊤
IsNearNext earlier t (next ∷ more) = (number : ℕ) × (number_after (Some t) next.count ≡ Some number) × IsWithinPeriod earlier number

-- Between the arrivals before it and after it, an arrival tells nothing, only repeats of it stand after it, and the
-- next number is still told by its count if these are taken out.
pub record CanBeTakenOut (f : ℕ) (before : List Arrival) (arrival : Arrival) (repeats after : List Arrival) : Type 0 where
  pub untold : is_untold (judge f (known_after f before) arrival).verdict.kind ≡ true
  pub repeated : All (λ repeat. repeat.count ≡ arrival.count) repeats
  pub near : IsNearNext (known_after f before).latest (judge f (known_after f before) arrival).verdict.t after
