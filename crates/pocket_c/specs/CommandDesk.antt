-- A desk in memory for one command, of which no call is told to fail: what it is seen as, what it tells, and what it counts.
use Rattle.std.specs.Prelude.{◌≡◌, ℕ, ◌+◌, ◌-◌, ◌^◌, min, Bool, true, false, not, ◌&&◌, List, is_some, refl}
use Rattle.std.specs.Coded.{Coded, code_by, coded×, coded_bool, coded_list}
use Rattle.std.specs.FinMap as map
use Rattle.std.specs.List.{list_any}
use Rattle.std.specs.Str.{bytes_eq}
use Rattle.desk_ports.specs.Meanings.{Counts, Kept, Meanings}
use Rattle.desk_ports.specs.MemState.{MemState, NothingFails, bytes_code, mem_meanings, state_code}
use Rattle.pocket_cmd.specs.Words.{Words, is_split, key_in, read_keys, text_in}

-- ---- the names that words give to what is read

-- the key of a word is one for a name to read
abbrev pub has_read_key : List ℕ → Bool
has_read_key word = is_split word && list_any (bytes_eq (key_in word)) read_keys

-- a word gives this name to what is read, and one of the words does
abbrev pub gives_name : List ℕ → List ℕ → Bool
gives_name name word = has_read_key word && bytes_eq (text_in word) name

abbrev pub give_name : Words → List ℕ → Bool
give_name words name = list_any (gives_name name) words

-- a word gives a name to what is read under which nothing is kept, and one of the words does
abbrev pub lacks_name : Kept → List ℕ → Bool
lacks_name kept word = has_read_key word && not (is_some (map.get kept (text_in word)))

abbrev pub lack_name : Kept → Words → Bool
lack_name kept words = list_any (lacks_name kept) words

-- ---- the desk

-- the desk, the words of the command, and whether a name that they give to what is read may be one under which nothing is kept
pub record CommandState : Type 0 where
  pub desk : MemState
  pub words : Words
  pub lacking : Bool

abbrev pub command_code : Coded CommandState
command_code =
    code_by (MemState × (Words × Bool)) (coded× state_code (coded× (coded_list bytes_code) coded_bool)) (λ c. (c.desk, (c.words, c.lacking)))
    (λ p. record { desk = p.0; words = p.1.0; lacking = p.1.1 }) (λ _. refl)

-- no call is told to fail, and something is kept under each name that the words give to what is read, but if one is lacking
pub record IsCommandDesk (desk : MemState) (words : Words) (lacking : Bool) : Type 0 where
  pub nothing : NothingFails desk.plan
  pub kept : (lack_name desk.held words && not lacking) ≡ false

-- what a desk in memory tells, which is everything, if it grants these names to what is read
abbrev pub told : (List ℕ → Bool) → MemState → Meanings
told grants desk = record (mem_meanings desk) { grants_in = grants }

abbrev pub command_meanings : CommandState → Meanings
command_meanings command = told (give_name command.words) command.desk

-- The openings that failed. If no name is lacking there are none; otherwise they are counted from two on, so that no desk counts
-- one: a reading fails only if a name is lacking.
abbrev pub counted_reads : Bool → ℕ → ℕ
counted_reads false n = 0
counted_reads true n = min (n + 2) (2 ^ 64 - 1)

-- these, and the allocations that were refused
abbrev pub command_counts : CommandState → Counts
command_counts command = record { reads = counted_reads command.lacking command.desk.faults.reads; writes = command.desk.faults.short }
