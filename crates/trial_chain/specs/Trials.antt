-- The history of a trial, how often each of its packets arrives, and the numbers that a trial tells.
use Rattle.std.specs.Prelude.{◌≡◌, ℕ, zero, suc, ◌-◌, ◌/◌, ◌%◌, ◌==◌, ◌≤◌, nat_lt, ◌&&◌, not, Bool, true, false, if◌then◌else◌, List, [], ◌∷◌, length, map, replicate, slice_index_or, slice_set, All}
use Rattle.std.specs.List.{range_with_len}
use Rattle.bit_vectors.specs.declared.flags.Flags.{Flags}
use Rattle.side_tables.specs.declared.rows.CopyRow.{CopyRow}
use Rattle.side_tables.specs.declared.rows.FlagRow.{FlagRow}
use Rattle.side_tables.specs.Rows.{IsCopyRow, copies_of}
use Rattle.mask_update.specs.Histories.{History, history_of}
use Rattle.flight_chain.specs.Recordings.{recording_of}
use Rattle.flight_chain.specs.Compressing.{store_of}
use Rattle.loss_player.specs.Played.{played_bytes, played_of}
use Rattle.ground_chain.specs.Deliveries.{delivered_numbers}
use Rattle.trial_chain.specs.declared.trial.Summary.{Summary}
use Rattle.trial_chain.specs.Draws.{input_draw, copies_draw}

-- the bounds of a trial
pub record IsTrial (packets f robust : ℕ) : Type 0 where
  pub some : 1 ≤ packets
  pub few : packets ≤ 10000
  pub places : 1 ≤ f
  pub most : f ≤ 4096
  pub required : robust ≤ 7

-- ---- inputs

-- the vector with one place inverted
abbrev pub inverted_at : List Bool → ℕ → List Bool
inverted_at v place = slice_set v place (not (slice_index_or v place false))

-- The input after an input: the last place is inverted, and after that, for one draw in four, the place that it says.
abbrev pub next_input : ℕ → List Bool → List Bool
next_input g v =
    let moved = inverted_at v (length v - 1) in
    if g % 4 == 0 then inverted_at moved (g / 4 % length v) else moved

-- the input of the packet t
unfoldable pub trial_input : ℕ → ℕ → ℕ → List Bool
trial_input seed f zero = replicate f false
trial_input seed f (suc t) = next_input (input_draw seed t) (trial_input seed f t)

abbrev pub trial_inputs : ℕ → ℕ → ℕ → List (List Bool)
trial_inputs seed packets f = map (trial_input seed f) (range_with_len 0 packets)

-- ---- flags

-- the packet t is one of every so many, but not the first
abbrev pub is_every : ℕ → ℕ → Bool
is_every step t = nat_lt 0 t && (t % step == 0)

-- a new mask for every 20th packet, the mask for every 50th, and whole content for every 100th
abbrev pub trial_flags : ℕ → Flags
trial_flags t = record { p = is_every 20 t; f = is_every 50 t; r = is_every 100 t }

-- the row of a schedule that says so
abbrev pub every : ℕ → Flags → FlagRow
every step flags = record { first = step; last = 4294967295; step = step; flags = flags }

-- the rows of a trial's schedule
abbrev pub trial_plan : List FlagRow
trial_plan =
    every 20 (record { p = true; f = false; r = false }) ∷ every 50 (record { p = false; f = true; r = false })
    ∷ every 100 (record { p = false; f = false; r = true }) ∷ []

-- ---- copies

-- how many copies of a packet arrive: none for one draw in sixteen, two for another
abbrev pub copies_by : ℕ → ℕ
copies_by h = if h % 16 == 0 then 0 else if h % 16 == 1 then 2 else 1

-- How many copies of the packet t arrive. Of the first there is one, and of numbers that no packet has the link says
-- one too.
abbrev pub trial_copies : ℕ → ℕ → ℕ → ℕ
trial_copies seed packets zero = 1
trial_copies seed packets (suc t) = if nat_lt (suc t) packets then copies_by (copies_draw seed t) else 1

-- so many copies of one packet, as a row of a script
abbrev pub row_of_one : ℕ → ℕ → CopyRow
row_of_one t copies = record { first = t; last = t; step = 1; copies = copies }

-- the rows that they need: none if the packet arrives once
abbrev pub rows_for : ℕ → ℕ → List CopyRow
rows_for t copies = if copies == 1 then [] else row_of_one t copies ∷ []

-- rows of a script, each of them right, that say how often the packets of a trial arrive
abbrev pub IsTrialScript : ℕ → ℕ → List CopyRow → Type 0
IsTrialScript seed packets rows = All IsCopyRow rows × ((t : ℕ) → copies_of rows t ≡ trial_copies seed packets t)

-- ---- the history

-- so many packets of f places, from a zero mask, with one required robustness
abbrev pub trial_history : ℕ → ℕ → ℕ → ℕ → History
trial_history seed packets f robust = history_of (trial_inputs seed packets f) trial_flags (λ _. robust) f (replicate f false)

-- ---- what a trial makes

-- the APID of its packets
abbrev pub trial_apid : ℕ
trial_apid = 100

-- the recording of a trial
abbrev pub trial_recording : ℕ → ℕ → ℕ → List ℕ
trial_recording seed packets f = recording_of (trial_inputs seed packets f)

-- The numbers that a trial tells: its packets, the bytes of the recording, of the store and of the played store, and the
-- packets that are delivered, written and listed.
abbrev pub trial_summary : ℕ → ℕ → ℕ → ℕ → Summary
trial_summary seed packets f robust =
    let h = trial_history seed packets f robust in
    let copies = trial_copies seed packets in
    record {
      packets = packets;
      recording = length (trial_recording seed packets f);
      store = length (store_of h trial_apid);
      played = length (played_bytes copies trial_apid (store_of h trial_apid));
      delivered = (played_of copies packets).delivered;
      written = (delivered_numbers h copies).written;
      listed = (delivered_numbers h copies).listed;
    }
