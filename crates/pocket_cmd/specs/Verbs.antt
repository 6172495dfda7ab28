-- The verbs, and the keys that each of them has.
use Rattle.std.specs.Prelude.{ℕ, Bool, true, false, List, [], ◌∷◌, codes, Option, Some, None, if◌then◌else◌}
use Rattle.std.specs.Str.{bytes_eq}
use Rattle.bit_vectors.specs.Vectors.{most_places}
use Rattle.pocket_cmd.specs.declared.verbs.Verb.{Verb}
use Rattle.pocket_cmd.specs.declared.verbs.Verb.TheVariants.{Compress, Play, Restore, Show, Trial, Multi, Late, Table, Forecast}
use Rattle.pocket_cmd.specs.declared.verbs.Port.{Port}
use Rattle.pocket_cmd.specs.declared.verbs.Port.TheVariants.{Side, Input, Output, Report}
use Rattle.pocket_cmd.specs.declared.verbs.ValueKind.{ValueKind}
use Rattle.pocket_cmd.specs.declared.verbs.ValueKind.TheVariants.{Name, Number, Mask}
use Rattle.pocket_cmd.specs.declared.verbs.KeyRow.{KeyRow as Held}
use Rattle.pocket_cmd.specs.declared.verbs.KeyRow.TheVariants as held

-- the verb that a word names
abbrev pub verb_of : List ℕ → Option Verb
verb_of word =
    if bytes_eq word (codes "compress") then Some Compress
    else (if bytes_eq word (codes "play") then Some Play
    else (if bytes_eq word (codes "restore") then Some Restore
    else (if bytes_eq word (codes "show") then Some Show
    else (if bytes_eq word (codes "trial") then Some Trial
    else (if bytes_eq word (codes "multi") then Some Multi
    else (if bytes_eq word (codes "late") then Some Late
    else (if bytes_eq word (codes "table") then Some Table
    else (if bytes_eq word (codes "forecast") then Some Forecast
    else None))))))))

-- a key, the kind of its value, and whether it is needed
pub record KeyRow : Type 0 where
  pub key : List ℕ
  pub kind : ValueKind
  pub is_needed : Bool

abbrev pub needed : List ℕ → ValueKind → KeyRow
needed key kind = record { key = key; kind = kind; is_needed = true }

abbrev pub optional : List ℕ → ValueKind → KeyRow
optional key kind = record { key = key; kind = kind; is_needed = false }

-- the keys of a verb
abbrev pub verb_rows : Verb → List KeyRow
verb_rows Compress =
    needed (codes "in") (Name Input) ∷ needed (codes "out") (Name Output) ∷ needed (codes "bits") (Number 1 most_places)
    ∷ needed (codes "apid") (Number 0 2046) ∷ needed (codes "robust") (Number 0 7) ∷ optional (codes "plan") (Name Side)
    ∷ optional (codes "mask") Mask ∷ []
verb_rows Play =
    needed (codes "in") (Name Input) ∷ needed (codes "out") (Name Output) ∷ needed (codes "report") (Name Report)
    ∷ needed (codes "script") (Name Side) ∷ needed (codes "apid") (Number 0 2046) ∷ []
verb_rows Restore =
    needed (codes "in") (Name Input) ∷ needed (codes "out") (Name Output) ∷ needed (codes "report") (Name Report)
    ∷ needed (codes "bits") (Number 1 most_places) ∷ needed (codes "apid") (Number 0 2046) ∷ []
verb_rows Show =
    needed (codes "in") (Name Input) ∷ needed (codes "out") (Name Output) ∷ needed (codes "bits") (Number 1 most_places)
    ∷ needed (codes "apid") (Number 0 2046) ∷ []
verb_rows Trial =
    needed (codes "out") (Name Output) ∷ needed (codes "seed") (Number 0 4294967295) ∷ needed (codes "packets") (Number 1 10000)
    ∷ needed (codes "bits") (Number 1 4096) ∷ needed (codes "robust") (Number 0 7) ∷ []
verb_rows Multi =
    needed (codes "in") (Name Input) ∷ needed (codes "out") (Name Output) ∷ needed (codes "report") (Name Report)
    ∷ needed (codes "streams") (Name Side) ∷ []
verb_rows Late =
    needed (codes "in") (Name Input) ∷ needed (codes "out") (Name Output) ∷ needed (codes "report") (Name Report)
    ∷ needed (codes "bits") (Number 1 most_places) ∷ needed (codes "apid") (Number 0 2046) ∷ needed (codes "window") (Number 0 64) ∷ []
verb_rows Table =
    needed (codes "in") (Name Input) ∷ needed (codes "out") (Name Output) ∷ needed (codes "report") (Name Report)
    ∷ needed (codes "fields") (Name Side) ∷ needed (codes "bits") (Number 1 most_places) ∷ []
verb_rows Forecast =
    needed (codes "out") (Name Output) ∷ needed (codes "packets") (Number 1 1000000) ∷ needed (codes "robust") (Number 0 7)
    ∷ needed (codes "plan") (Name Side) ∷ needed (codes "script") (Name Input) ∷ []

abbrev pub view_row : Held → KeyRow
view_row (held.Needed key kind) = needed key.now kind
view_row (held.Optional key kind) = optional key.now kind

-- the kind of the value of a key, if one of the rows has it
abbrev pub kind_of : List KeyRow → List ℕ → Option ValueKind
kind_of [] key = None
kind_of (row ∷ rows) key = if bytes_eq row.key key then Some row.kind else kind_of rows key

-- a value is the name of what is opened there
abbrev pub is_name_at : Port → ValueKind → Bool
is_name_at Side (Name Side) = true
is_name_at Input (Name Input) = true
is_name_at Output (Name Output) = true
is_name_at Report (Name Report) = true
is_name_at _ _ = false
