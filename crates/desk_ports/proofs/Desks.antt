-- What desks tell and keep: faults, granted names, steps of an inlet and reads ahead, finished outputs and opened inputs.
use borrow.Rule.Slice.PartMut.{put_mid, post_of}
use Rattle.std.specs.Cmp.Lexicographic.{slice_cmp}
use Rattle.std.specs.FinMap as map
use Rattle.std.specs.Option.{option_map}
use Rattle.std.specs.Ordering.{nat_cmp}
use Rattle.std.specs.Str.{bytes_eq}
use Rattle.std.proofs.Common.{◌≡◌, ℕ, ◌+◌, ◌<◌, ◌≤◌, List, ◌++◌, length, take, drop, Option, Some, None, Bool, sym, ap, ◌∙◌, arith, ◌^◌, ◌-◌, inl, inr, subst, true, false, cond, [], IsSome, IfSome, unwrap_or, refl, ◌≢◌, All, Fits, w8, get_or, take-take, length-append, append_assoc, append-nil}
use Rattle.std.proofs.lemmas.Cmp.{nat_list_cmp_total, nat_list_eq_equiv}
use Rattle.std.proofs.lemmas.List.{take-append-drop, drop-drop, take-append-le, length-take-le, get_or_default}
use Rattle.std.proofs.lemmas.Map.Text.{is_eq-slice_cmp}
use Rattle.std.proofs.lemmas.Slice.Eq.{bytes_eq-Decides}
use Rattle.desk_ports.specs.Log.{bytes_at}
use Rattle.desk_ports.specs.Meanings.{Moves, with_incoming, Counts, FailsToRead, FailsToWrite, Fails, Rose, AreBelowLast, faults, next_count, Meanings, Begins, Adds, Keeps, Incoming, Kept, Opens, kept_at, kept_after, left, made, outgoing, ReadsOn}
use Rattle.desk_ports.specs.MemDesk.{cursor_at, with_cursor, incoming_of, state_of, IsInEntry, IsSound}
use Rattle.desk_ports.specs.MemState.{mem_meanings, capped}
use Rattle.desk_ports.specs.QuietDesk.{held_until}
use Rattle.desk_ports.specs.QuietState.{both_kept}
use Rattle.desk_ports.specs.declared.desk.Inlet.{Inlet}
use Rattle.desk_ports.specs.declared.desk.Inlet.TheVariants as inlet
use Rattle.desk_ports.specs.declared.desk.Outlet.{Outlet}
use Rattle.desk_ports.specs.declared.desk.Outlet.TheVariants as outlet
use Rattle.desk_ports.specs.declared.memory.Cursor.TheVariants as cursor
use Rattle.desk_ports.specs.declared.memory.MemDesk.TheInside.{Inside}
use Rattle.desk_ports.proofs.Courses.{Moves-none, Moves-then, take-put_mid-add}

-- ---- how a step of an inlet in memory changes what its desk tells

rest : (bytes : List ℕ) (place n : ℕ) → drop place bytes ≡ take n (drop place bytes) ++ drop (place + n) bytes
rest bytes place n = sym (take-append-drop n (drop place bytes)) ∙ ap (λ l. take n (drop place bytes) ++ l) (drop-drop n place bytes)

-- an inlet that is before a place, and then n bytes further on
pub Moves_on : (desk : Inside) (i : Inlet) (at place n : ℕ) → cursor_at desk.cursors i ≡ cursor.Entry at place
    → Moves (mem_meanings (state_of desk)) (mem_meanings (state_of (record desk { cursors = with_cursor desk.cursors i (cursor.Entry at (place + n)) }))) i (take n (drop place (bytes_at desk.log.items at)))
Moves_on desk inlet.Side at place n e =
    let log = desk.log.items in
    let old = mem_meanings (state_of desk) in
    record {
      moved = ap (λ r. Some ((incoming_of log r).left)) e ∙ ap Some (rest (bytes_at log at) place n);
      others = ap (λ (b : Bool). with_incoming old inlet.Side (record { left = Some (drop (place + n) (bytes_at log at)); ready = b })) (sym (ap (λ r. (incoming_of log r).ready) e));
    }
Moves_on desk inlet.Main at place n e =
    let log = desk.log.items in
    let old = mem_meanings (state_of desk) in
    record {
      moved = ap (λ r. Some ((incoming_of log r).left)) e ∙ ap Some (rest (bytes_at log at) place n);
      others = ap (λ (b : Bool). with_incoming old inlet.Main (record { left = Some (drop (place + n) (bytes_at log at)); ready = b })) (sym (ap (λ r. (incoming_of log r).ready) e));
    }

-- an inlet of a sound desk is within an entry
pub IsInEntry_at : (desk : Inside) (i : Inlet) → IsSound desk → IsInEntry desk.log.items (cursor_at desk.cursors i)
IsInEntry_at desk inlet.Side sound = sound.side
IsInEntry_at desk inlet.Main sound = sound.input

-- a desk stays sound if an inlet is set within an entry
pub IsSound_on : (desk : Inside) (i : Inlet) (at place : ℕ) → IsSound desk → at < length desk.log.items → place ≤ length (bytes_at desk.log.items at)
    → IsSound (record desk { cursors = with_cursor desk.cursors i (cursor.Entry at place) })
IsSound_on desk inlet.Side at place sound within short = record { side = (within, short); input = sound.input; some = sound.some }
IsSound_on desk inlet.Main at place sound within short = record { side = sound.side; input = (within, short); some = sound.some }

-- a call moves no more than there is
pub capped_le : (pieces : Option ℕ) (n : ℕ) → capped pieces n ≤ n
capped_le None n = omega arith
capped_le (Some size) n = omega arith

-- ---- what the counts of a desk say about its faults

-- a fault raises the count of its kind
pub Rose-reads : (old new : Counts) → FailsToRead old new → Rose old.reads new.reads
Rose-reads old new fails = subst (λ (c : Counts). Rose old.reads c.reads) (sym fails) (omega arith)

pub Rose-writes : (old new : Counts) → FailsToWrite old new → Rose old.writes new.writes
Rose-writes old new fails = subst (λ (c : Counts). Rose old.writes c.writes) (sym fails) (omega arith)

counted : (n : ℕ) → n < 2 ^ 64 - 1 → next_count n ≡ n + 1
counted n below = omega arith

-- and it is counted once
pub faults-once : (old new : Counts) → AreBelowLast old → Fails old new → faults new ≡ faults old + 1
faults-once old new below (inl fails) = omega (arith, ap faults fails, counted old.reads below.reads)
faults-once old new below (inr fails) = omega (arith, ap faults fails, counted old.writes below.writes)

-- after a fault another one is one more, so that both are not one
pub faults-twice : (a b c : Counts) → AreBelowLast b → Fails a b → Fails b c → Fails a c → ⊥
faults-twice a b c below first next both =
    let below_first : AreBelowLast a = earlier first in
    omega (arith, faults-once a b below_first first, faults-once b c below next, faults-once a c below_first both) where
      earlier : Fails a b → AreBelowLast a
      earlier (inl fails) = record { reads = omega (arith, ap (λ (k : Counts). k.reads) fails, below.reads); writes = omega (arith, ap (λ (k : Counts). k.writes) fails, below.writes) }
      earlier (inr fails) = record { reads = omega (arith, ap (λ (k : Counts). k.reads) fails, below.reads); writes = omega (arith, ap (λ (k : Counts). k.writes) fails, below.writes) }

-- ---- what a call of a desk does is the same if the desk grants other names

abbrev pub granting : (List ℕ → Bool) → Meanings → Meanings
granting grants m = record m { grants_in = grants }

pub Begins-granting : (grants : List ℕ → Bool) (a b : Meanings) (o : Outlet) (name : List ℕ) → Begins a b o name → Begins (granting grants a) (granting grants b) o name
Begins-granting grants a b outlet.Main name e = ap (granting grants) e
Begins-granting grants a b outlet.Report name e = ap (granting grants) e

pub Moves-granting : (grants : List ℕ → Bool) (a b : Meanings) (i : Inlet) (bytes : List ℕ) → Moves a b i bytes → Moves (granting grants a) (granting grants b) i bytes
Moves-granting grants a b inlet.Side bytes moves = record { moved = moves.moved; others = ap (granting grants) moves.others }
Moves-granting grants a b inlet.Main bytes moves = record { moved = moves.moved; others = ap (granting grants) moves.others }

pub Adds-granting : (grants : List ℕ → Bool) (a b : Meanings) (o : Outlet) (bytes : List ℕ) → Adds a b o bytes → Adds (granting grants a) (granting grants b) o bytes
Adds-granting grants a b outlet.Main bytes adds = record { added = adds.added; others = ap (granting grants) adds.others }
Adds-granting grants a b outlet.Report bytes adds = record { added = adds.added; others = ap (granting grants) adds.others }

pub Keeps-granting : (grants : List ℕ → Bool) (a b : Meanings) (o : Outlet) → Keeps a b o → Keeps (granting grants a) (granting grants b) o
Keeps-granting grants a b outlet.Main e = ap (granting grants) e
Keeps-granting grants a b outlet.Report e = ap (granting grants) e

-- ---- what is kept once an output is finished, and what is left of an input that is opened

pub kept_at-insert : (kept : Kept) (name bytes sought : List ℕ) → kept_at (map.insert kept name bytes) sought ≡ cond (bytes_eq sought name) bytes (kept_at kept sought)
kept_at-insert kept name bytes sought =
    ap (λ o. unwrap_or o []) (map.get-insert nat_list_cmp_total kept name bytes sought ∙ ap (λ b. cond b (Some bytes) (map.get kept sought)) (is_eq-slice_cmp sought name))
    ∙ either (bytes_eq sought name)
  where
    either : (same : Bool) → unwrap_or (cond same (Some bytes) (map.get kept sought)) [] ≡ cond same bytes (kept_at kept sought)
    either true = refl
    either false = refl

pub kept_here : (kept : Kept) (name bytes sought : List ℕ) → bytes_eq sought name ≡ true → kept_at (map.insert kept name bytes) sought ≡ bytes
kept_here kept name bytes sought same = kept_at-insert kept name bytes sought ∙ ap (λ b. cond b bytes (kept_at kept sought)) same

pub kept_apart : (kept : Kept) (name bytes sought : List ℕ) → bytes_eq sought name ≡ false → kept_at (map.insert kept name bytes) sought ≡ kept_at kept sought
kept_apart kept name bytes sought other = kept_at-insert kept name bytes sought ∙ ap (λ b. cond b bytes (kept_at kept sought)) other

left-with_incoming : (m : Meanings) (i : Inlet) (incoming : Incoming) → left (with_incoming m i incoming) i ≡ incoming.left
left-with_incoming m inlet.Side incoming = refl
left-with_incoming m inlet.Main incoming = refl

IfSome-option_map : (known : Option (List ℕ)) (bytes others : List ℕ) → bytes ≡ others → IfSome (option_map (λ _. bytes) known) (λ rest. rest ≡ others)
IfSome-option_map None bytes others e = tt
IfSome-option_map (Some known) bytes others e = e

-- an input that is opened has left what is kept
left-opened : (b c : Meanings) (i : Inlet) (name : List ℕ) (kept : Kept) → b.held ≡ Some kept → Opens b c i name → IfSome (left c i) (λ rest. rest ≡ kept_at kept name)
left-opened b c i name kept held opens =
    let bytes : opens.bytes ≡ kept_at kept name = subst (λ h. IfSome h (λ k. opens.bytes ≡ kept_at k name)) held opens.kept in
    let is = ap (λ m. left m i) opens.others ∙ left-with_incoming b i _ in
    subst (λ known. IfSome known (λ rest. rest ≡ kept_at kept name)) (sym is) (IfSome-option_map (left b i) opens.bytes (kept_at kept name) bytes)

pub left-finished : (a b c : Meanings) (o : Outlet) (i : Inlet) (name bytes : List ℕ) (held : Option Kept) → a.held ≡ held → IsSome held
    → (outgoing a o).name ≡ Some name → made a o ≡ Some bytes → Keeps a b o → Opens b c i name → IfSome (left c i) (λ rest. rest ≡ bytes)
left-finished a b c o i name bytes None held some named written keeps opens = cc
left-finished a b c o i name bytes (Some kept) held some named written keeps opens =
    let after = ap (λ m. m.held) keeps ∙ (λ j. kept_after (held j) (named j) (written j)) in
    subst (λ l. IfSome (left c i) (λ rest. rest ≡ l)) (kept_here kept name bytes name (nat_list_eq_equiv.refl name)) (left-opened b c i name (map.insert kept name bytes) after opens)

-- what is held stays held if one more thing is kept
pub IsSome-insert : (kept : Kept) (name bytes sought : List ℕ) → IsSome (map.get kept sought) → IsSome (map.get (map.insert kept name bytes) sought)
IsSome-insert kept name bytes sought some =
    subst IsSome (sym (map.get-insert nat_list_cmp_total kept name bytes sought ∙ ap (λ b. cond b (Some bytes) (map.get kept sought)) (is_eq-slice_cmp sought name)))
    (either (bytes_eq sought name))
  where
    either : (same : Bool) → IsSome (cond same (Some bytes) (map.get kept sought))
    either true = search
    either false = some

-- ---- what a quiet desk keeps under each name

module _ (side_name side main_name main name : List ℕ) where
  pub main_kept : bytes_eq name main_name ≡ true → kept_at (both_kept side_name side main_name main) name ≡ main
  main_kept same = kept_here (map.insert map.empty side_name side) main_name main name same

  pub side_kept : bytes_eq name main_name ≡ false → bytes_eq name side_name ≡ true → kept_at (both_kept side_name side main_name main) name ≡ side
  side_kept other same = kept_apart (map.insert map.empty side_name side) main_name main name other ∙ kept_here map.empty side_name side name same

  pub none_kept : bytes_eq name main_name ≡ false → bytes_eq name side_name ≡ false → kept_at (both_kept side_name side main_name main) name ≡ []
  none_kept other apart =
      kept_apart (map.insert map.empty side_name side) main_name main name other
      ∙ kept_apart map.empty side_name side name apart
      ∙ ap (λ o. unwrap_or o []) (map.get-empty (slice_cmp nat_cmp) name)

pub differ : (xs ys : List ℕ) → xs ≢ ys → bytes_eq xs ys ≡ false
differ xs ys apart = by (bytes_eq xs ys) refl
  where
    by : (same : Bool) → bytes_eq xs ys ≡ same → bytes_eq xs ys ≡ false
    by true e = absurd (apart ((bytes_eq-Decides xs ys).0 e))
    by false e = e

-- what is kept under a name, as long as that is told
pub kept_until : (finished : Bool) (kept : Kept) (name bytes : List ℕ) → bytes ≡ kept_at kept name → IfSome (held_until finished kept) (λ k. bytes ≡ kept_at k name)
kept_until false kept name bytes e = e
kept_until true kept name bytes e = tt

-- ---- what a read ahead leaves in its room

-- the front of a room in which bytes were read after the first ones
pub read_after : (len k n m : ℕ) (items room first buf : List ℕ) → m ≡ k + n → first ≡ room → k ≤ length first → n ≤ length buf → k + length buf ≤ len
    → take m (take len (put_mid k (length first - k) first buf ++ drop (length (put_mid k (length first - k) first buf)) items)) ≡ take k room ++ take n buf
read_after len k n m items room first buf sum is within few long =
    let part = put_mid k (length first - k) first buf in
    let rest = post_of k (length first - k) first in
    let size : k + length buf ≤ length part = omega (arith, length-append (take k first) (buf ++ rest), length-append buf rest, length-take-le k first within) in
    take-take m len (part ++ drop (length part) items) (omega arith)
    ∙ (take-append-le m part (drop (length part) items) (omega arith)
    ∙ (ap (λ i. take i part) sum
    ∙ (take-put_mid-add first buf k (length first - k) n within few
    ∙ ap (λ l. take k l ++ take n buf) is)))

-- a number that fits into a byte is below 256
pub All-fits : (xs : List ℕ) → ((k : ℕ) → Fits w8 (get_or xs k 0)) → All (λ b. b < 256) xs
All-fits xs fit = λ k d within. rw (get_or_default xs k d 0 within) (omega (arith, fit k))

-- nothing was read
pub ReadsOn-none : (ahead : List ℕ) (m : Meanings) → ReadsOn ahead ahead m m
ReadsOn-none ahead m = record { bytes = []; joined = sym (append-nil ahead); moved = Moves-none m inlet.Main }

-- bytes and then more bytes were read
pub ReadsOn-then : (x y z : List ℕ) (a b c : Meanings) → ReadsOn x y a b → ReadsOn y z b c → ReadsOn x z a c
ReadsOn-then x y z a b c p q = record {
  bytes = p.bytes ++ q.bytes;
  joined = q.joined ∙ (ap (λ l. l ++ q.bytes) p.joined ∙ append_assoc x p.bytes q.bytes);
  moved = Moves-then a b c inlet.Main p.bytes q.bytes p.moved q.moved;
}
