-- Arrivals that are held in order, and given up one after another.
use Rattle.std.specs.Prelude.{◌≡◌, ℕ, ◌+◌, ◌≤◌, Bool, false, nat_lt, if◌then◌else◌, List, [], ◌∷◌, ◌++◌, length, take, slice_index_or, Option, Some, None}
use Rattle.late_window.specs.Order.{Numbered, placed}

-- The arrivals that are held, in order, and the number of the one that was given up last. At most as many as the window is
-- large are held for longer than it takes to give up the least one.
pub record Line : Type 0 where
  pub window : ℕ
  pub held : List Numbered
  pub released : Option ℕ

abbrev pub empty_line : ℕ → Line
empty_line window = record { window = window; held = []; released = None }

-- the number is below that of the arrival that was given up last
abbrev pub is_below : ℕ → Option ℕ → Bool
is_below t None = false
is_below t (Some released) = nat_lt t released

-- one more is held
abbrev pub holding : Line → Numbered → Line
holding line a = record line { held = placed a line.held }

abbrev pub without_first : Line → List Numbered → Line
without_first line [] = line
without_first line (a ∷ held) = record line { held = held; released = Some a.number }

-- the first of those that are held is given up
abbrev pub given_up : Line → Line
given_up line = without_first line line.held

-- ---- one arrival after another

-- the line with one more arrival, unless its number is below that of one that was given up
abbrev pub taken_in : Line → Numbered → Line
taken_in line a = if is_below a.number line.released then line else holding line a

-- what is given up if more are held than the window is large: the first one
abbrev pub surplus : Line → List Numbered
surplus line = if nat_lt line.window (length line.held) then take 1 line.held else []

abbrev pub settled : Line → Line
settled line = if nat_lt line.window (length line.held) then given_up line else line

-- what is given up when this arrival comes, and the line after it
abbrev pub gives : Line → Numbered → List Numbered
gives line a = surplus (taken_in line a)

abbrev pub next_line : Line → Numbered → Line
next_line line a = settled (taken_in line a)

-- what is given up of these arrivals and those that are held, one after another
abbrev pub given_from : Line → List Numbered → List Numbered
given_from line [] = []
given_from line (a ∷ arrivals) = gives line a ++ given_from (next_line line a) arrivals

-- the line after them
abbrev pub line_after : Line → List Numbered → Line
line_after line [] = line
line_after line (a ∷ arrivals) = line_after (next_line line a) arrivals

-- how many of them are not held
abbrev pub passed_over : Line → Numbered → ℕ
passed_over line a = if is_below a.number line.released then 1 else 0

abbrev pub late_from : Line → List Numbered → ℕ
late_from line [] = 0
late_from line (a ∷ arrivals) = passed_over line a + late_from (next_line line a) arrivals

-- ---- a sorter

-- a line, and the data of the arrival that was given up last, until another one is held
pub record Sorting : Type 0 where
  pub line : Line
  pub out : List ℕ

-- a place without an arrival
abbrev pub nothing : Numbered
nothing = record { number = 0; body = [] }

-- the data of a place lie within its room, and there is never more memory for it, so that none is taken
pub record IsPlace (size room capacity : ℕ) : Type 0 where
  pub within : size ≤ room
  pub most : room ≤ 65536
  pub taken : capacity ≡ 65536

-- each arrival has a number that is at most that of all after it
abbrev pub AreFrom : ℕ → List Numbered → Type 0
AreFrom t [] = Unit {0}
AreFrom t (a ∷ arrivals) = (t ≤ a.number) × AreFrom t arrivals

abbrev pub AreRising : List Numbered → Type 0
AreRising [] = Unit {0}
AreRising (a ∷ arrivals) = AreFrom a.number arrivals × AreRising arrivals

-- what places hold: the held arrivals first, and in the last place the data of the one that was given up last
abbrev pub sorting_of : ℕ → ℕ → Option ℕ → List Numbered → Sorting
sorting_of window held released places = record {
  line = record { window = window; held = take held places; released = released };
  out = (slice_index_or places window nothing).body;
}

-- One place more than the window is large, and there is never more room, so that no memory is taken. The held arrivals are
-- in order.
pub record IsSorter (window held : ℕ) (slots : List Numbered) (capacity : ℕ) : Type 0 where
  pub most : window ≤ 64
  pub places : length slots ≡ window + 1
  pub taken : capacity ≡ window + 1
  pub within : held ≤ window + 1
  pub rising : AreRising (take held slots)
