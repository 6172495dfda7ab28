-- What a handle holds says the same to every thread: a box of the heap, whose contents may cross.
use Rattle.std.proofs.Common.{ℕ, Option, None, Some}
use mir.Raw.{raw}
use base.Shift.{Keyless}
use denote.RawPtr.{Ptr}
use denote.Memory.{lone}
use denote.Struct.Struct.{exits_of}
use denote.Struct.Owning.{shape, fields, to}
use denote.Param.Send.{IsSend, AllSend, owning_send, struct_send, sendable}
use Rattle.std.proofs.Crossing as heap
use Rattle.std_alloc.proofs.SendSync.{quiet, lies}
use Rattle.pocket_c.specs.Owned.{owned}
use Rattle.pocket_c.specs.contracts.held.Held as held
use Rattle.pocket_c.specs.contracts.held.Handle.{the_row, the_type}
use Rattle.pocket_c.proofs.held.Held.TheSendSync.{the_send as held_send}

owned_keyless : (state : ℕ) (p : Ptr) (x : Option held.the_row.Denot) → Keyless (owned held.the_row state p x)
owned_keyless state p None = λ _. tt
owned_keyless state p (Some x) = ((λ _. tt), λ a. (lies held.the_row held_send p x, heap.frees.frees a (raw (lone held.the_row.mir)) p))

pub send : IsSend the_row
send =
    let all : AllSend (fields the_type) = (search sendable, (search sendable, tt)) in
    owning_send the_type all (λ d. owned_keyless d.state d.at d.held)
    (λ k. quiet (to the_type) (exits_of k (fields the_type)) ((struct_send (shape the_type) all).leaving k))
