-- What is kept of the arrivals so far: what the ground knows after them, and their numbers.
use Rattle.std.specs.Prelude.{◌≡◌, ℕ, ◌+◌, ◌-◌, ◌<◌, ◌≤◌, false, List, Bool, replicate, Option, None, Some, IfSome, ◌*◌, ◌^◌, []}
use Rattle.bit_vectors.specs.Vectors.{bits_of}
use Rattle.packet_store.specs.SpacePackets.{period}
use Rattle.packet_encode.specs.Forms.{Form}
use Rattle.packet_decode.specs.Spelling.{Spells}
use Rattle.packet_decode.specs.State.{IsState, KnownVector, Change, next_state, no_vectors, Decoding, latest_mask_number, latest_number}
use Rattle.ground_chain.specs.Report.{IsRestored, restored_of, restored_by, added}
use Rattle.ground_chain.specs.Run.{expected, Arrival, Known, Judged, judge, known_after, IsArrival, run, run_from}
use Rattle.ground_chain.specs.declared.restored.Restored.{Restored}
use Rattle.ground_chain.specs.declared.verdict.Kind.TheVariants.{Written}
use Rattle.ground_chain.specs.declared.verdict.Lost.{Lost}

-- ---- what is kept of the arrivals so far: the latest number, and the decoder with the latest mask and content

pub record Reception : Type 0 where
  pub latest : Option ℕ
  pub decoder : Decoding

-- nothing has arrived
abbrev pub nothing_arrived : ℕ → Reception
nothing_arrived f = record { latest = None; decoder = record { places = f; state = no_vectors; recent = replicate f false; level = 0 } }

abbrev pub known_of : Reception → Known
known_of r = record { latest = r.latest; state = r.decoder.state }

-- the run's verdict on the next arrival, with this count and these data bytes, and what is known after it
abbrev pub next_judged : Reception → ℕ → List ℕ → Judged
next_judged r count body = judge r.decoder.places (known_of r) (record { count = count; body = body })

-- it keeps what is known after these arrivals
abbrev pub StandsFor : List Arrival → Reception → Type 0
StandsFor arrivals r = known_of r ≡ known_after r.decoder.places arrivals

-- the content of the packet with the number t that the bits spell became known, and with it what else they tell
pub record HasDecoded (old new : Decoding) (t : ℕ) (body : List ℕ) : Type 0 where
  pub form : Form
  pub mask : Option (List Bool)
  pub content : List Bool
  pub spells : Spells old.places old.state t (bits_of body) form mask (Some content)
  pub is : new ≡ record { places = old.places; state = next_state old.state t mask (Some content); recent = form.recent; level = form.level }

-- its mask alone became known
pub record HasMasked (old new : Decoding) (t : ℕ) (body : List ℕ) : Type 0 where
  pub form : Form
  pub mask : Option (List Bool)
  pub spells : Spells old.places old.state t (bits_of body) form mask None
  pub is : new ≡ record { places = old.places; state = next_state old.state t mask None; recent = old.recent; level = old.level }

-- the decoder has the content of this arrival, and its first part
pub record ShowsPacket (decoder : Decoding) (judged : Judged) : Type 0 where
  pub known : KnownVector
  pub change : Change
  pub content : judged.after.state.content ≡ Some known
  pub recent : decoder.recent ≡ change.recent
  pub level : decoder.level ≡ change.level
  pub first : judged.change ≡ Some change

-- the decoder knows what is known after the arrival, and if that is written, it has its content and its first part
pub record AgreesWith (decoder : Decoding) (judged : Judged) : Type 0 where
  pub state : decoder.state ≡ judged.after.state
  pub written : judged.verdict.kind ≡ Written → ShowsPacket decoder judged

-- lost numbers are at least one, and fewer than there are sequence counts
pub record AreLost (lost : Lost) : Type 0 where
  pub order : lost.first ≤ lost.last
  pub few : lost.last - lost.first + 1 < period

-- what is known has the decoder's places, and its packets arrived
pub record IsReception (latest : Option ℕ) (decoder : Decoding) : Type 0 where
  pub places : IsState decoder.places decoder.state
  pub arrived : IfSome (latest_number decoder.state) (λ t. t < expected latest)
  pub mask_arrived : IfSome (latest_mask_number decoder.state) (λ t. t < expected latest)

-- ---- what is kept of judged arrivals: what the ground knows after them, and their numbers

pub record Reckoning : Type 0 where
  pub reception : Reception
  pub restored : Restored

-- nothing is judged
abbrev pub nothing_judged : ℕ → Reckoning
nothing_judged f = record { reception = nothing_arrived f; restored = restored_of [] }

-- the run over arrivals that come next
abbrev pub next_run : Reckoning → List Arrival → List Judged
next_run r arrivals = run_from r.reception.decoder.places (known_of r.reception) arrivals

-- these arrivals were judged, with vectors of f places: it keeps what the run knows after them, and the numbers of the run
pub record HasJudged (f : ℕ) (arrivals : List Arrival) (r : Reckoning) : Type 0 where
  pub places : r.reception.decoder.places ≡ f
  pub stands : StandsFor arrivals r.reception
  pub counted : r.restored ≡ restored_of (run f arrivals)

-- what may be judged next: an arrival, one of the first 4,294,967,296
abbrev pub IsNextArrival : Reckoning → ℕ → List ℕ → Type 0
IsNextArrival r count body = IsArrival count body × (r.restored.packets < 2 ^ 32)

-- one more arrival was judged, with this count and these data bytes: what is kept and counted is what the run knows after it
pub record Judges (old new : Reckoning) (count : ℕ) (body : List ℕ) : Type 0 where
  pub known : known_of new.reception ≡ (next_judged old.reception count body).after
  pub places : new.reception.decoder.places ≡ old.reception.decoder.places
  pub restored : new.restored ≡ added old.restored (restored_by (next_judged old.reception count body).verdict)

-- the numbers are within their limits, which the arrivals set
pub record IsWithinLimits (latest : Option ℕ) (restored : Restored) : Type 0 where
  pub near : expected latest ≤ 2 ^ 14 * restored.packets
  pub tally : IsRestored restored
  pub most : restored.packets ≤ 2 ^ 32
