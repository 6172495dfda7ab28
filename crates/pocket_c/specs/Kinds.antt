-- What a handle may hold.
use Rattle.std.specs.Prelude.{ℕ, ⊤, Bool, List, [], ◌∷◌, Option, None, Some}
use Rattle.bit_vectors.specs.declared.flags.Flags.{Flags}
use Rattle.pocket_c.specs.contracts.held.Held.{the_row}
use Rattle.pocket_c.specs.declared.held.Held.TheVariants as held

-- what a handle holds, if it holds something
abbrev pub Holding : Type 0
Holding = Option the_row.Denot

-- it holds something, and no sender
abbrev pub HasOtherThanSender : Holding → Type 0
HasOtherThanSender None = ⊥
HasOtherThanSender (Some (held.Sender s)) = ⊥
HasOtherThanSender (Some (held.Receiver r)) = ⊤
HasOtherThanSender (Some (held.Bench b)) = ⊤

-- it holds something, and no receiver
abbrev pub HasOtherThanReceiver : Holding → Type 0
HasOtherThanReceiver None = ⊥
HasOtherThanReceiver (Some (held.Sender s)) = ⊤
HasOtherThanReceiver (Some (held.Receiver r)) = ⊥
HasOtherThanReceiver (Some (held.Bench b)) = ⊤

-- it holds something, and no desk
abbrev pub HasOtherThanBench : Holding → Type 0
HasOtherThanBench None = ⊥
HasOtherThanBench (Some (held.Sender s)) = ⊤
HasOtherThanBench (Some (held.Receiver r)) = ⊤
HasOtherThanBench (Some (held.Bench b)) = ⊥

-- it holds a desk
abbrev pub HasBench : Holding → Type 0
HasBench None = ⊥
HasBench (Some (held.Sender s)) = ⊥
HasBench (Some (held.Receiver r)) = ⊥
HasBench (Some (held.Bench b)) = ⊤

-- the flags of a packet, by its three values
abbrev pub flags_by : Bool → Bool → Bool → Flags
flags_by new_mask send_mask whole = record { p = new_mask; f = send_mask; r = whole }

-- no mask if there is no byte
abbrev pub mask_in : List ℕ → Option (List ℕ)
mask_in [] = None
mask_in (byte ∷ bytes) = Some (byte ∷ bytes)
