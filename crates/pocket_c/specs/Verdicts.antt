-- What C sees of a verdict.
use Rattle.std.specs.Prelude.{ℕ, ◌+◌, ◌-◌, ◌^◌, min, Option, None, Some}
use Rattle.ground_chain.specs.declared.restored.Restored.{Restored}
use Rattle.ground_chain.specs.declared.verdict.Lost.{Lost}
use Rattle.ground_chain.specs.declared.verdict.Kind.{Kind}
use Rattle.ground_chain.specs.declared.verdict.Kind.TheVariants.{Written, Repeat, Unsynced, Gap, Refused}
use Rattle.ground_chain.specs.declared.verdict.Verdict.{Verdict}
use Rattle.ground_chain.specs.Report.{tells_mask_alone, kind_value}
use Rattle.bit_vectors.specs.declared.fault.BitFault.TheVariants.{Wrong, EndsEarly}
use Rattle.pocket_c.specs.declared.receiver.Counts.{Counts}
use Rattle.pocket_c.specs.declared.receiver.Finding.{Finding}

abbrev pub kind_number : Kind → ℕ
kind_number Written = 0
kind_number Repeat = 1
kind_number (Unsynced mask) = 2
kind_number (Gap level mask) = 3
kind_number (Refused (Wrong bit)) = 4
kind_number (Refused (EndsEarly bit)) = 5

-- the first lost number, and 0 if none is
abbrev pub first_lost : Option Lost → ℕ
first_lost None = 0
first_lost (Some lost) = lost.first

-- how many are lost, as many as a number of 64 bits can say
abbrev pub lost_number : Option Lost → ℕ
lost_number None = 0
lost_number (Some lost) = min (lost.last - lost.first + 1) (2 ^ 64 - 1)

abbrev pub finding_of : Verdict → Finding
finding_of verdict = record {
  number = verdict.t;
  first_lost = first_lost verdict.lost;
  lost = lost_number verdict.lost;
  kind = kind_number verdict.kind;
  value = kind_value verdict.kind;
  mask_alone = tells_mask_alone verdict.kind;
}

abbrev pub counts_told : Restored → Counts
counts_told r = record { packets = r.packets; written = r.written; repeats = r.repeats; listed = r.listed }
