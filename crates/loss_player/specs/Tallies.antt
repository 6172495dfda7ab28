-- The numbers of the packets so far, one packet after the other.
use Rattle.std.specs.Prelude.{ℕ, ◌+◌, ◌-◌, ◌*◌, ◌<◌, ◌≤◌, ◌==◌, max, if◌then◌else◌, Option, Some, None, IfSome}
use Rattle.std.specs.List.{last_or}
use Rattle.loss_player.specs.declared.played.Tally.{Tally}
use Rattle.loss_player.specs.Played.{delivered, played_of}

-- the numbers of n packets, and the latest delivered one
abbrev pub tally_of : (ℕ → ℕ) → ℕ → Tally
tally_of copies n = record { played = played_of copies n; latest = last_or None (delivered copies n) }

abbrev pub no_tally : Tally
no_tally = record { played = record { packets = 0; delivered = 0; dropped = 0; repeats = 0; first = None; widest = 0 }; latest = None }

-- the first delivered number, with one more
abbrev pub first_with : Option ℕ → Option ℕ → ℕ → Option ℕ
first_with None first t = Some t
first_with (Some latest) first t = first

-- the widest difference, with one more number
abbrev pub widest_with : Option ℕ → ℕ → ℕ → ℕ
widest_with None widest t = widest
widest_with (Some latest) widest t = max widest (t - latest)

abbrev pub with_dropped : Tally → Tally
with_dropped tally = record tally { played = record tally.played { packets = tally.played.packets + 1; dropped = tally.played.dropped + 1 } }

abbrev pub with_delivered : Tally → ℕ → Tally
with_delivered tally copies = record {
  played = record {
    packets = tally.played.packets + 1;
    delivered = tally.played.delivered + 1;
    dropped = tally.played.dropped;
    repeats = tally.played.repeats + (copies - 1);
    first = first_with tally.latest tally.played.first tally.played.packets;
    widest = widest_with tally.latest tally.played.widest tally.played.packets;
  };
  latest = Some tally.played.packets;
}

-- the numbers, with one more packet, of which so many copies arrive
abbrev pub tally_with : Tally → ℕ → Tally
tally_with tally copies = if copies == 0 then with_dropped tally else with_delivered tally copies

-- the numbers are within their limits
pub record IsTally (tally : Tally) : Type 0 where
  pub delivered : tally.played.delivered ≤ tally.played.packets
  pub dropped : tally.played.dropped ≤ tally.played.packets
  pub repeats : tally.played.repeats ≤ 8 * tally.played.packets
  pub latest : IfSome tally.latest (λ t. t < tally.played.packets)
