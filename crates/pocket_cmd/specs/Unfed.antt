-- What a run leaves of a desk that has no input, by its answer.
use Rattle.std.specs.Prelude.{◌≡◌, List, [], Bool, true, false, ℕ, Option}
use Rattle.desk_ports.specs.Courses.{Outputs, Ran, Course, Ends, IsCutOff, IsCutShort, AreFronts, owed}
use Rattle.desk_ports.specs.Meanings.{Meanings}

-- all that is owed stands, and nothing else changed
pub record EndsUnfed {F : Type 0} (course : Course F) (old new : Meanings) (ending : Option F) : Type 0 where
  pub ran : Ran old new [] (owed course)
  pub ends : course.ending ≡ ending

-- a writing failed: what stands is a front of what is owed, and nothing else changed
pub record IsCutShortUnfed {F : Type 0} (course : Course F) (old new : Meanings) : Type 0 where
  pub stand : Outputs
  pub ran : Ran old new [] stand
  pub fronts : AreFronts stand (owed course)

-- ---- with an input or without one

abbrev pub EndsBy : {F : Type 0} → Bool → (List ℕ → Course F) → Meanings → Meanings → Option F → Type 0
EndsBy true course_of old new ending = Ends course_of old new ending
EndsBy false course_of old new ending = EndsUnfed (course_of []) old new ending

-- a reading failed, which takes an input
abbrev pub IsCutOffBy : {F : Type 0} → Bool → (List ℕ → Course F) → Meanings → Meanings → Type 0
IsCutOffBy true course_of old new = IsCutOff course_of old new
IsCutOffBy false course_of old new = ⊥

abbrev pub IsCutShortBy : {F : Type 0} → Bool → (List ℕ → Course F) → Meanings → Meanings → Type 0
IsCutShortBy true course_of old new = IsCutShort course_of old new
IsCutShortBy false course_of old new = IsCutShortUnfed (course_of []) old new
