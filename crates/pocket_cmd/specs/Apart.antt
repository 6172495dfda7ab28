-- How the names of a command differ, and what is kept under those of its outputs.
use Rattle.std.specs.Prelude.{◌≡◌, ◌⊎◌, ℕ, List, codes, Some, IfSome}
use Rattle.desk_ports.specs.declared.desk.Outlet.TheVariants as outlet
use Rattle.desk_ports.specs.Meanings.{Meanings, kept_at, made}
use Rattle.pocket_cmd.specs.Command.{Names}

-- a name to read, and a name to write
abbrev pub IsNameToRead : Names → List ℕ → Type 0
IsNameToRead names name = (names.side ≡ Some name) ⊎ (names.input ≡ Some name)

abbrev pub IsNameToWrite : Names → List ℕ → Type 0
IsNameToWrite names name = (names.output ≡ name) ⊎ (names.report ≡ Some name)

-- two names to read differ, and two names to write; a name to read that is one to write is `-`
pub record AreApart (names : Names) : Type 0 where
  pub read : IfSome names.side (λ side. ¬ (names.input ≡ Some side))
  pub written : IfSome names.report (λ report. ¬ (names.output ≡ report))
  pub across : (name : List ℕ) → IsNameToRead names name → IsNameToWrite names name → name ≡ codes "-"

-- what each output made is kept under its name, if the desk tells both
pub record AreKeptAsMade (names : Names) (m : Meanings) : Type 0 where
  pub output : IfSome m.held (λ kept. IfSome (made m outlet.Main) (λ bytes. kept_at kept names.output ≡ bytes))
  pub report : IfSome names.report (λ name. IfSome m.held (λ kept. IfSome (made m outlet.Report) (λ bytes. kept_at kept name ≡ bytes)))
