-- Packets of a history that come late, and what is restored of them.
use Rattle.std.specs.Prelude.{◌≡◌, ℕ, ◌+◌, ◌<◌, ◌≤◌, ◌==◌, nat_lt, List, [], ◌∷◌, ◌++◌, length, map, All, Contains, Some}
use Rattle.std.specs.Io.KnownBytes.{append_known}
use Rattle.std.specs.List.{count_by}
use Rattle.desk_ports.specs.declared.desk.Inlet.TheVariants as inlet
use Rattle.desk_ports.specs.declared.desk.Outlet.TheVariants as outlet
use Rattle.desk_ports.specs.Meanings.{Meanings, left, made}
use Rattle.mask_update.specs.Histories.{History, IsValid}
use Rattle.packet_store.specs.SpacePackets.{period}
use Rattle.ground_chain.specs.Deliveries.{arrival_at, delivered_numbers, report_text, restored_bytes}
use Rattle.late_window.specs.declared.done.LateDone.{LateDone}
use Rattle.late_window.specs.Order.{late_row}
use Rattle.late_window.specs.Restoring.{store_arrivals}

-- the number is one of these, and none is greater
pub record IsGreatest (numbers : List ℕ) (t : ℕ) : Type 0 where
  pub among : Contains numbers t
  pub most : All (λ s. s ≤ t) numbers

-- The first number is below the period, and any other is at most 8,191 from the greatest before it.
pub record IsNearNext (before : List ℕ) (t : ℕ) : Type 0 where
  pub first : before ≡ [] → t < period
  pub below : (greatest : ℕ) → IsGreatest before greatest → greatest ≤ t + 8191
  pub above : (greatest : ℕ) → IsGreatest before greatest → t ≤ greatest + 8191

-- These are the numbers of the packets that arrive, of n packets, in the order of arrival: each stands there as often as it
-- arrives, none is far from those before it, and none comes later than the window allows, that is, at most so many before
-- it are greater.
pub record IsLateDelivery (window n : ℕ) (copies : ℕ → ℕ) (numbers : List ℕ) : Type 0 where
  pub known : All (λ t. t < n) numbers
  pub copied : (t : ℕ) → t < n → count_by (λ s. s == t) numbers ≡ copies t
  pub near : (front rest : List ℕ) (t : ℕ) → numbers ≡ front ++ t ∷ rest → IsNearNext front t
  pub within : (front rest : List ℕ) (t : ℕ) → numbers ≡ front ++ t ∷ rest → count_by (λ s. nat_lt t s) front ≤ window

-- The input is a whole store, and the packets of the APID in it are those of a valid history, which come late by no more
-- than the window.
pub record IsLatePlayed (f apid window : ℕ) (h : History) (copies : ℕ → ℕ) (m : Meanings) : Type 0 where
  pub store : List ℕ
  pub numbers : List ℕ
  pub valid : IsValid h
  pub places : h.places ≡ f
  pub delivery : IsLateDelivery window (length h.steps) copies numbers
  pub arrives : store_arrivals apid store ≡ map (arrival_at h) numbers
  pub input : left m inlet.Main ≡ Some store

-- To the outputs were added the inputs of the written packets, and the report of all others, with none too late; and these
-- are the numbers.
pub record IsLateDelivered (h : History) (copies : ℕ → ℕ) (done : LateDone) (old new : Meanings) : Type 0 where
  pub output : made new outlet.Main ≡ append_known (made old outlet.Main) (restored_bytes h copies)
  pub report : made new outlet.Report ≡ append_known (made old outlet.Report) (report_text h copies ++ late_row 0)
  pub numbers : done ≡ record { restored = delivered_numbers h copies; late = 0 }
