-- Runs whose answers are right: soundly, when the bit of a fault may come later than the first at which it can be
-- seen, or exactly.
use Rattle.std.specs.Prelude.{◌≡◌, ℕ, List, [], ◌∷◌, Bool, true, false, Option, Some, None, Result, Ok, Err, ⊤}
use Rattle.bit_vectors.specs.declared.fault.BitFault.{BitFault}
use Rattle.bit_vectors.specs.declared.fault.BitFault.TheVariants.{Wrong}
use Rattle.bit_vectors.specs.Vectors.{bits_of}
use Rattle.packet_encode.specs.Forms.{Form}
use Rattle.packet_decode.specs.declared.decoder.Reading.{Reading}
use Rattle.packet_decode.specs.declared.decoder.Reading.TheVariants.{Written, Unsynced, Gap}
use Rattle.packet_decode.specs.State.{State, Change, change_of, next_state}
use Rattle.packet_decode.specs.Spelling.{Spells}
use Rattle.packet_decode.specs.Answers.{IsSoundAnswer, IsExactAnswer}
use Rattle.ground_chain.specs.declared.verdict.Kind.{Kind}
use Rattle.ground_chain.specs.declared.verdict.Kind.TheVariants as kind
use Rattle.ground_chain.specs.Run.{number_after, Arrival, Known, Judged, nothing_known, verdict_of, repeat_judged}

-- which answers are right under a state, for the bits of the packet with the number t
abbrev pub Rightness : Type 1
Rightness = ℕ → State → ℕ → List Bool → Result Reading BitFault → Type 0

-- the next state has what becomes known by the packet that the bits spell
pub record IsSpelled (f : ℕ) (state : State) (t : ℕ) (bits : List Bool) (next : State) : Type 0 where
  pub form : Form
  pub mask : Option (List Bool)
  pub content : Option (List Bool)
  pub spells : Spells f state t bits form mask content
  pub is : next ≡ next_state state t mask content

-- the state after an answer: by a packet that is spelled, what becomes known; all other answers leave the state
abbrev pub IsStateAfter : ℕ → State → ℕ → List Bool → State → Result Reading BitFault → Type 0
IsStateAfter f state t bits next (Ok Written) = IsSpelled f state t bits next
IsStateAfter f state t bits next (Ok (Unsynced true)) = IsSpelled f state t bits next
IsStateAfter f state t bits next (Ok (Unsynced false)) = next ≡ state
IsStateAfter f state t bits next (Ok (Gap level true)) = IsSpelled f state t bits next
IsStateAfter f state t bits next (Ok (Gap level false)) = next ≡ state
IsStateAfter f state t bits next (Err fault) = next ≡ state

-- this is the first part of the packet that the bits spell, with its content
pub record IsFirstPart (f : ℕ) (state : State) (t : ℕ) (bits : List Bool) (change : Option Change) : Type 0 where
  pub form : Form
  pub mask : Option (List Bool)
  pub content : List Bool
  pub spells : Spells f state t bits form mask (Some content)
  pub is : change ≡ Some (change_of form)

-- the first part that is kept after an answer: that of a written packet, and none after all other answers
abbrev pub IsChangeAfter : ℕ → State → ℕ → List Bool → Option Change → Result Reading BitFault → Type 0
IsChangeAfter f state t bits change (Ok Written) = IsFirstPart f state t bits change
IsChangeAfter f state t bits change (Ok (Unsynced mask)) = change ≡ None
IsChangeAfter f state t bits change (Ok (Gap level mask)) = change ≡ None
IsChangeAfter f state t bits change (Err fault) = change ≡ None

-- an arrival with the number t has a verdict with a right answer
pub record IsReadAs (IsRight : Rightness) (f : ℕ) (known : Known) (body : List ℕ) (judged : Judged) (t : ℕ) : Type 0 where
  pub answer : Result Reading BitFault
  pub right : IsRight f known.state t (bits_of body) answer
  pub verdict : judged.verdict ≡ verdict_of known.latest t answer
  pub change : IsChangeAfter f known.state t (bits_of body) judged.change answer
  pub latest : judged.after.latest ≡ Some t
  pub state : IsStateAfter f known.state t (bits_of body) judged.after.state answer

abbrev pub IsJudgedBy : Rightness → ℕ → Known → List ℕ → Judged → Option ℕ → Type 0
IsJudgedBy IsRight f known body judged None = judged ≡ repeat_judged known
IsJudgedBy IsRight f known body judged (Some t) = IsReadAs IsRight f known body judged t

abbrev pub IsJudged : Rightness → ℕ → Known → Arrival → Judged → Type 0
IsJudged IsRight f known arrival judged = IsJudgedBy IsRight f known arrival.body judged (number_after known.latest arrival.count)

abbrev pub AreJudged : Rightness → ℕ → Known → List Arrival → List Judged → Type 0
AreJudged IsRight f known [] [] = ⊤
AreJudged IsRight f known [] (judged ∷ more) = ⊥
AreJudged IsRight f known (arrival ∷ arrivals) [] = ⊥
AreJudged IsRight f known (arrival ∷ arrivals) (judged ∷ more) = IsJudged IsRight f known arrival judged × AreJudged IsRight f judged.after arrivals more

-- a run over all arrivals with sound answers
abbrev pub IsSoundRun : ℕ → List Arrival → List Judged → Type 0
IsSoundRun f arrivals judged = AreJudged IsSoundAnswer f nothing_known arrivals judged

-- with exact answers
abbrev pub IsExactRun : ℕ → List Arrival → List Judged → Type 0
IsExactRun f arrivals judged = AreJudged IsExactAnswer f nothing_known arrivals judged

-- ---- where sound runs differ

-- a kind, when all faults of refused packets are taken for one
abbrev pub without_fault : Kind → Kind
without_fault kind.Written = kind.Written
without_fault kind.Repeat = kind.Repeat
without_fault (kind.Unsynced mask) = kind.Unsynced mask
without_fault (kind.Gap level mask) = kind.Gap level mask
without_fault (kind.Refused fault) = kind.Refused (Wrong 0)

-- the same of a verdict
abbrev pub but_for_faults : Judged → Judged
but_for_faults judged = record judged { verdict = record judged.verdict { kind = without_fault judged.verdict.kind } }
