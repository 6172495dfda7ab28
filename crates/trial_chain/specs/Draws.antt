-- The numbers that a trial draws: a linear congruential sequence, of whose numbers a draw gives the high half.
use Rattle.std.specs.Prelude.{ℕ, zero, suc, ◌+◌, ◌*◌, ◌/◌, ◌%◌}

-- the number that a draw leaves
abbrev pub next_number : ℕ → ℕ
next_number s = (1664525 * s + 1013904223) % 4294967296

-- what a draw gives that leaves this number
abbrev pub drawn : ℕ → ℕ
drawn s = s / 65536

-- the number after the draws of the packet t: two for each packet after the first
unfoldable pub generator_at : ℕ → ℕ → ℕ
generator_at seed zero = seed
generator_at seed (suc t) = next_number (next_number (generator_at seed t))

-- the two draws of the packet after the packet t: what they decide is its input, and how often it arrives
abbrev pub input_draw : ℕ → ℕ → ℕ
input_draw seed t = drawn (next_number (generator_at seed t))

abbrev pub copies_draw : ℕ → ℕ → ℕ
copies_draw seed t = drawn (next_number (next_number (generator_at seed t)))
