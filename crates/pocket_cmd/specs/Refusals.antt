-- The text of each refusal.
use Rattle.std.specs.Prelude.{ℕ, ◌++◌, List, [], codes, decimal}
use Rattle.packet_store.specs.declared.fault.StoreKind.{StoreKind}
use Rattle.packet_store.specs.declared.fault.StoreKind.TheVariants as store
use Rattle.pocket_cmd.specs.declared.status.Status.{Status}
use Rattle.pocket_cmd.specs.declared.status.Status.TheVariants.{Done, Refused}
use Rattle.pocket_cmd.specs.declared.status.Refusal.{Refusal}
use Rattle.pocket_cmd.specs.declared.status.Refusal.TheVariants.{BadWords, SideTooLong, BadSide, ScriptTooLong, BadScript, ReadFault, WriteFault, CutRecord, SpareBit, BadStore, TooMany, NoMemory}

abbrev pub store_kind_text : StoreKind → List ℕ
store_kind_text store.Cut = codes "is cut"
store_kind_text store.Version = codes "has another version"
store_kind_text store.Shape = codes "has another shape"

abbrev pub refusal_text : Refusal → List ℕ
refusal_text (BadWords word) = codes "word " ++ decimal word ++ codes " is wrong"
refusal_text SideTooLong = codes "side input is too long"
refusal_text (BadSide row) = codes "side row " ++ decimal row ++ codes " is wrong"
refusal_text ScriptTooLong = codes "script is too long"
refusal_text (BadScript row) = codes "script row " ++ decimal row ++ codes " is wrong"
refusal_text ReadFault = codes "reading failed"
refusal_text WriteFault = codes "writing failed"
refusal_text (CutRecord t) = codes "recording ends inside packet " ++ decimal t
refusal_text (SpareBit t) = codes "packet " ++ decimal t ++ codes " has a spare bit set"
refusal_text (BadStore byte kind) = codes "store packet at byte " ++ decimal byte ++ codes " " ++ store_kind_text kind
refusal_text TooMany = codes "too many packets"
refusal_text NoMemory = codes "out of memory"

-- what is told of an end: nothing if the command was done
abbrev pub status_text : Status → List ℕ
status_text Done = []
status_text (Refused refusal) = refusal_text refusal
