-- What a run has done: its course, its moves and additions, and what is for each outlet.
use borrow.Rule.Slice.PartMut.{put_mid, post_of}
use Rattle.std.specs.Io.KnownBytes.{prepend_known, append_known, IsAtEnd}
use Rattle.std.specs.List.{flat_map}
use Rattle.std.proofs.Common.{◌≡◌, ℕ, ◌+◌, ◌≤◌, List, [], ◌++◌, length, take, Option, Some, None, refl, sym, ap, ◌∙◌, subst, append_assoc, append-nil, ◌∷◌, IfSome, unwrap_or}
use Rattle.std.proofs.Math.Seq.{take-append-add}
use Rattle.std.proofs.lemmas.Grind.{flat_map-append}
use Rattle.std.proofs.lemmas.List.{take-append-le, length-take-le}
use Rattle.desk_ports.specs.Courses.{Outputs, to_outlet, other_than, byte_for, bytes_for, Ran, with_bytes, Course, by_ending, owed, written_first, AreFronts, Went, Ends, IsCutOff, Work, Finishes}
use Rattle.desk_ports.specs.Meanings.{Meanings, Moves, Adds, IsReadyIn, IsReadyOut, left, with_left, made, with_made}
use Rattle.desk_ports.specs.declared.desk.Inlet.{Inlet}
use Rattle.desk_ports.specs.declared.desk.Inlet.TheVariants as inlet
use Rattle.desk_ports.specs.declared.desk.Outlet.{Outlet}
use Rattle.desk_ports.specs.declared.desk.Outlet.TheVariants as outlet

-- ---- how moves from an inlet and additions to an outlet are joined, for every loop over a desk

with_left-with_left : (m : Meanings) (i : Inlet) (a b : Option (List ℕ)) → with_left (with_left m i a) i b ≡ with_left m i b
with_left-with_left m inlet.Side a b = refl
with_left-with_left m inlet.Main a b = refl

IsReadyIn-with_left : (m : Meanings) (i : Inlet) (a : Option (List ℕ)) → IsReadyIn m i → IsReadyIn (with_left m i a) i
IsReadyIn-with_left m inlet.Side a h = h
IsReadyIn-with_left m inlet.Main a h = h

with_made-with_made : (m : Meanings) (o : Outlet) (a b : Option (List ℕ)) → with_made (with_made m o a) o b ≡ with_made m o b
with_made-with_made m outlet.Main a b = refl
with_made-with_made m outlet.Report a b = refl

IsReadyOut-with_made : (m : Meanings) (o : Outlet) (a : Option (List ℕ)) → IsReadyOut m o → IsReadyOut (with_made m o a) o
IsReadyOut-with_made m outlet.Main a h = h
IsReadyOut-with_made m outlet.Report a h = h

pub prepend_known-none : (a : Option (List ℕ)) → a ≡ prepend_known [] a
prepend_known-none None = refl
prepend_known-none (Some xs) = refl

pub prepend_known-then : (a : Option (List ℕ)) (xs ys : List ℕ) → prepend_known xs (prepend_known ys a) ≡ prepend_known (xs ++ ys) a
prepend_known-then None xs ys = refl
prepend_known-then (Some zs) xs ys = ap Some (sym (append_assoc xs ys zs))

pub append_known-none : (a : Option (List ℕ)) → a ≡ append_known a []
append_known-none None = refl
append_known-none (Some xs) = ap Some (sym (append-nil xs))

pub append_known-then : (a : Option (List ℕ)) (xs ys : List ℕ) → append_known (append_known a xs) ys ≡ append_known a (xs ++ ys)
append_known-then None xs ys = refl
append_known-then (Some zs) xs ys = ap Some (append_assoc zs xs ys)

with_left-left : (m : Meanings) (i : Inlet) → m ≡ with_left m i (left m i)
with_left-left m inlet.Side = refl
with_left-left m inlet.Main = refl

-- nothing was moved
pub Moves-none : (m : Meanings) (i : Inlet) → Moves m m i []
Moves-none m i = record { moved = prepend_known-none (left m i); others = with_left-left m i }

-- bytes and then more bytes were moved
pub Moves-then : (a b c : Meanings) (i : Inlet) (xs ys : List ℕ) → Moves a b i xs → Moves b c i ys → Moves a c i (xs ++ ys)
Moves-then a b c i xs ys p q = record {
  moved = p.moved ∙ (ap (prepend_known xs) q.moved ∙ prepend_known-then (left c i) xs ys);
  others = q.others ∙ (ap (λ m. with_left m i (left c i)) p.others ∙ with_left-with_left a i (left b i) (left c i));
}

-- an opened inlet stays open
pub Moves-ready : (a b : Meanings) (i : Inlet) (xs : List ℕ) → Moves a b i xs → IsReadyIn a i → IsReadyIn b i
Moves-ready a b i xs p h = subst (λ m. IsReadyIn m i) (sym p.others) (IsReadyIn-with_left a i (left b i) h)

with_made-made : (m : Meanings) (o : Outlet) → m ≡ with_made m o (made m o)
with_made-made m outlet.Main = refl
with_made-made m outlet.Report = refl

-- nothing was added
pub Adds-none : (m : Meanings) (o : Outlet) → Adds m m o []
Adds-none m o = record { added = append_known-none (made m o); others = with_made-made m o }

-- bytes and then more bytes were added
pub Adds-then : (a b c : Meanings) (o : Outlet) (xs ys : List ℕ) → Adds a b o xs → Adds b c o ys → Adds a c o (xs ++ ys)
Adds-then a b c o xs ys p q = record {
  added = q.added ∙ (ap (λ k. append_known k ys) p.added ∙ append_known-then (made a o) xs ys);
  others = q.others ∙ (ap (λ m. with_made m o (made c o)) p.others ∙ with_made-with_made a o (made b o) (made c o));
}

-- an opened outlet stays open
pub Adds-ready : (a b : Meanings) (o : Outlet) (xs : List ℕ) → Adds a b o xs → IsReadyOut a o → IsReadyOut b o
Adds-ready a b o xs p h = subst (λ m. IsReadyOut m o) (sym p.others) (IsReadyOut-with_made a o (made b o) h)

-- after more bytes were read after a full front, the front is longer by them
pub take-put_mid-add : (xs ys : List ℕ) (a k n : ℕ) → a ≤ length xs → n ≤ length ys → take (a + n) (put_mid a k xs ys) ≡ take a xs ++ take n ys
take-put_mid-add xs ys a k n within short =
    let front = take a xs in
    let joined = take-append-add front (ys ++ post_of a k xs) n in
    let cut = take-append-le n ys (post_of a k xs) short in
    ap (λ m. take (m + n) (put_mid a k xs ys)) (sym (length-take-le a xs within)) ∙ (joined ∙ ap (λ l. front ++ l) cut)

-- ---- what is for an outlet

pub bytes_for-own : (o : Outlet) (bytes : List ℕ) → bytes_for o (to_outlet o bytes) ≡ bytes
bytes_for-own o [] = refl
bytes_for-own outlet.Main (byte ∷ bytes) = ap (λ (l : List ℕ). byte ∷ l) (bytes_for-own outlet.Main bytes)
bytes_for-own outlet.Report (byte ∷ bytes) = ap (λ (l : List ℕ). byte ∷ l) (bytes_for-own outlet.Report bytes)

pub bytes_for-other : (o : Outlet) (bytes : List ℕ) → bytes_for o (to_outlet (other_than o) bytes) ≡ []
bytes_for-other o [] = refl
bytes_for-other outlet.Main (byte ∷ bytes) = bytes_for-other outlet.Main bytes
bytes_for-other outlet.Report (byte ∷ bytes) = bytes_for-other outlet.Report bytes

pub to_outlet-append : (o : Outlet) (xs ys : List ℕ) → to_outlet o (xs ++ ys) ≡ to_outlet o xs ++ to_outlet o ys
to_outlet-append o [] ys = refl
to_outlet-append o (x ∷ xs) ys = ap (λ (l : Outputs). (o, x) ∷ l) (to_outlet-append o xs ys)

pub to_outlet-flat_map : {X : Type 0} (o : Outlet) (f : X → List ℕ) (xs : List X) → to_outlet o (flat_map f xs) ≡ flat_map (λ x. to_outlet o (f x)) xs
to_outlet-flat_map o f [] = refl
to_outlet-flat_map o f (x ∷ xs) = to_outlet-append o (f x) (flat_map f xs) ∙ ap (λ (l : Outputs). to_outlet o (f x) ++ l) (to_outlet-flat_map o f xs)

pub bytes_for-append : (o : Outlet) (a b : Outputs) → bytes_for o (a ++ b) ≡ bytes_for o a ++ bytes_for o b
bytes_for-append o a b = flat_map-append (byte_for o) a b

-- those of things one after another
pub bytes_for-flat_map : {X : Type 0} (o : Outlet) (f : X → Outputs) (g : X → List ℕ) → ((x : X) → bytes_for o (f x) ≡ g x) → (xs : List X) → bytes_for o (flat_map f xs) ≡ flat_map g xs
bytes_for-flat_map o f g each [] = refl
bytes_for-flat_map o f g each (x ∷ xs) = bytes_for-append o (f x) (flat_map f xs) ∙ λ i. each x i ++ bytes_for-flat_map o f g each xs i

-- those of a beginning, of things one after another, and of an end
pub bytes_for-around : {X : Type 0} (o : Outlet) (first last : Outputs) (f : X → Outputs) (g : X → List ℕ) → ((x : X) → bytes_for o (f x) ≡ g x) → (xs : List X) → bytes_for o ((first ++ flat_map f xs) ++ last) ≡ (bytes_for o first ++ flat_map g xs) ++ bytes_for o last
bytes_for-around o first last f g each xs =
    bytes_for-append o (first ++ flat_map f xs) last
    ∙ ap (λ (l : List ℕ). l ++ bytes_for o last) (bytes_for-append o first (flat_map f xs) ∙ ap (λ (l : List ℕ). bytes_for o first ++ l) (bytes_for-flat_map o f g each xs))

-- those of two texts, one for each outlet
pub bytes_for-first : (o : Outlet) (xs ys : List ℕ) → bytes_for o (to_outlet o xs ++ to_outlet (other_than o) ys) ≡ xs
bytes_for-first o xs ys = bytes_for-append o (to_outlet o xs) (to_outlet (other_than o) ys) ∙ ((λ i. bytes_for-own o xs i ++ bytes_for-other o ys i) ∙ append-nil xs)

pub bytes_for-last : (o : Outlet) (xs ys : List ℕ) → bytes_for o (to_outlet (other_than o) xs ++ to_outlet o ys) ≡ ys
bytes_for-last o xs ys = bytes_for-append o (to_outlet (other_than o) xs) (to_outlet o ys) ∙ λ i. bytes_for-other o xs i ++ bytes_for-own o ys i

-- ---- runs

-- nothing was done
pub Ran-none : (m : Meanings) → Ran m m [] []
Ran-none m = record {
  input = prepend_known-none (left m inlet.Main);
  output = append_known-none (made m outlet.Main);
  report = append_known-none (made m outlet.Report);
  others = refl;
}

-- one part and then another
pub Ran-then : (a b c : Meanings) (xs ys : List ℕ) (us vs : Outputs) → Ran a b xs us → Ran b c ys vs → Ran a c (xs ++ ys) (us ++ vs)
Ran-then a b c xs ys us vs p q = record {
  input = p.input ∙ (ap (prepend_known xs) q.input ∙ prepend_known-then (left c inlet.Main) xs ys);
  output = q.output ∙ (ap (λ k. append_known k (bytes_for outlet.Main vs)) p.output ∙ added outlet.Main);
  report = q.report ∙ (ap (λ k. append_known k (bytes_for outlet.Report vs)) p.report ∙ added outlet.Report);
  others = q.others ∙ ap (λ m. with_bytes m (left c inlet.Main) (made c outlet.Main) (made c outlet.Report)) p.others;
} where
  added : (o : Outlet) → append_known (append_known (made a o) (bytes_for o us)) (bytes_for o vs) ≡ append_known (made a o) (bytes_for o (us ++ vs))
  added o = append_known-then (made a o) (bytes_for o us) (bytes_for o vs) ∙ ap (append_known (made a o)) (sym (bytes_for-append o us vs))

-- a reading of the main input is a run
pub Ran-moves : (a b : Meanings) (xs : List ℕ) → Moves a b inlet.Main xs → Ran a b xs []
Ran-moves a b xs p =
    let output : made b outlet.Main ≡ made a outlet.Main = ap (λ m. made m outlet.Main) p.others in
    let report : made b outlet.Report ≡ made a outlet.Report = ap (λ m. made m outlet.Report) p.others in
    record {
      input = p.moved;
      output = output ∙ append_known-none (made a outlet.Main);
      report = report ∙ append_known-none (made a outlet.Report);
      others = p.others ∙ (ap (λ o. with_bytes a (left b inlet.Main) o (made a outlet.Report)) (sym output) ∙ ap (λ r. with_bytes a (left b inlet.Main) (made b outlet.Main) r) (sym report));
    }

-- a writing to an outlet is a run
pub Ran-adds : (a b : Meanings) (o : Outlet) (xs : List ℕ) → Adds a b o xs → Ran a b [] (to_outlet o xs)
Ran-adds a b outlet.Main xs p =
    let input : left b inlet.Main ≡ left a inlet.Main = ap (λ m. left m inlet.Main) p.others in
    let report : made b outlet.Report ≡ made a outlet.Report = ap (λ m. made m outlet.Report) p.others in
    record {
      input = prepend_known-none (left a inlet.Main) ∙ ap (prepend_known []) (sym input);
      output = p.added ∙ ap (append_known (made a outlet.Main)) (sym (bytes_for-own outlet.Main xs));
      report = report ∙ (append_known-none (made a outlet.Report) ∙ ap (append_known (made a outlet.Report)) (sym (bytes_for-other outlet.Report xs)));
      others = p.others ∙ λ i. with_bytes a (sym input i) (made b outlet.Main) (sym report i);
    }
Ran-adds a b outlet.Report xs p =
    let input : left b inlet.Main ≡ left a inlet.Main = ap (λ m. left m inlet.Main) p.others in
    let output : made b outlet.Main ≡ made a outlet.Main = ap (λ m. made m outlet.Main) p.others in
    record {
      input = prepend_known-none (left a inlet.Main) ∙ ap (prepend_known []) (sym input);
      output = output ∙ (append_known-none (made a outlet.Main) ∙ ap (append_known (made a outlet.Main)) (sym (bytes_for-other outlet.Main xs)));
      report = p.added ∙ ap (append_known (made a outlet.Report)) (sym (bytes_for-own outlet.Report xs));
      others = p.others ∙ λ i. with_bytes a (sym input i) (sym output i) (made b outlet.Report);
    }

-- what was opened stays open
pub Ran-ready_in : (a b : Meanings) (xs : List ℕ) (us : Outputs) → Ran a b xs us → IsReadyIn a inlet.Main → IsReadyIn b inlet.Main
Ran-ready_in a b xs us p h = subst (λ m. IsReadyIn m inlet.Main) (sym p.others) h

pub Ran-ready_out : (a b : Meanings) (o : Outlet) (xs : List ℕ) (us : Outputs) → Ran a b xs us → IsReadyOut a o → IsReadyOut b o
Ran-ready_out a b outlet.Main xs us p h = subst (λ m. IsReadyOut m outlet.Main) (sym p.others) h
Ran-ready_out a b outlet.Report xs us p h = subst (λ m. IsReadyOut m outlet.Report) (sym p.others) h

-- ---- what a run has done, for every command that reads one input and writes up to two outputs

by_ending-put : {F : Type 0} (ending : Option F) (stand before after : Outputs) → by_ending ending (stand ++ before) after ≡ stand ++ by_ending ending before after
by_ending-put None stand before after = append_assoc stand before after
by_ending-put (Some fault) stand before after = refl

pub owed-written_first : {F : Type 0} (stand : Outputs) (course : Course F) → owed (written_first stand course) ≡ stand ++ owed course
owed-written_first stand course = by_ending-put course.ending stand course.before course.after

pub written_first-twice : {F : Type 0} (a b : Outputs) (course : Course F) → written_first a (written_first b course) ≡ written_first (a ++ b) course
written_first-twice a b course = ap (λ (before : Outputs). record course { before = before }) (sym (append_assoc a b course.before))

-- a prefix is a prefix of more, and also after the same bytes
pub AreFronts-then : (a b c : Outputs) → AreFronts a b → AreFronts a (b ++ c)
AreFronts-then a b c p = record { rest = p.rest ++ c; joined = sym (append_assoc a p.rest c) ∙ ap (λ (o : Outputs). o ++ c) p.joined }

pub AreFronts-put : (stand a b : Outputs) → AreFronts a b → AreFronts (stand ++ a) (stand ++ b)
AreFronts-put stand a b p = record { rest = p.rest; joined = append_assoc stand a p.rest ∙ ap (λ (o : Outputs). stand ++ o) p.joined }

-- the bytes that an input has left, or none if they are not told
abbrev pub rest_of : Option (List ℕ) → List ℕ
rest_of left = unwrap_or left []

pub IfSome-rest_of : (left : Option (List ℕ)) → IfSome left (λ bytes. bytes ≡ rest_of left)
IfSome-rest_of None = tt
IfSome-rest_of (Some bytes) = refl

-- a run, seen with all of its input
pub Went-ran : (a b : Meanings) (taken : List ℕ) (stand : Outputs) → Ran a b taken stand → Went a b (taken ++ rest_of (left b inlet.Main)) stand
Went-ran a b taken stand ran = record { taken = taken; rest = rest_of (left b inlet.Main); split = refl; told = IfSome-rest_of (left b inlet.Main); ran = ran }

-- a part of a run and then the others
pub Went-then : (a b c : Meanings) (taken input : List ℕ) (stand more : Outputs) → Ran a b taken stand → Went b c input more → Went a c (taken ++ input) (stand ++ more)
Went-then a b c taken input stand more ran went = record {
  taken = taken ++ went.taken;
  rest = went.rest;
  split = append_assoc taken went.taken went.rest ∙ ap (λ l. taken ++ l) went.split;
  told = went.told;
  ran = Ran-then a b c taken went.taken stand more ran went.ran;
}

-- a read failed, and nothing is owed for the bytes that were lost
pub IsCutOff-moves : {F : Type 0} (here : List ℕ → Course F) (a b : Meanings) (lost : List ℕ) → Moves a b inlet.Main lost → (here lost).before ≡ [] → IsCutOff here a b
IsCutOff-moves here a b lost moves nothing = record { taken = lost; ran = subst (Ran a b lost) (sym nothing) (Ran-moves a b lost moves) }

-- what was read has a fault, and nothing was owed before it
pub Ends-fault : {F : Type 0} (here : List ℕ → Course F) (a b : Meanings) (taken rest : List ℕ) (fault : F) → Moves a b inlet.Main taken → IfSome (left b inlet.Main) (λ bytes. bytes ≡ rest)
    → (here (taken ++ rest)).before ≡ [] → (here (taken ++ rest)).ending ≡ Some fault → Ends here a b (Some fault)
Ends-fault here a b taken rest fault moves told nothing ends =
    let course = here (taken ++ rest) in
    let owes : owed course ≡ [] = ap (λ ending. by_ending ending course.before course.after) ends ∙ nothing in
    record {
      input = taken ++ rest;
      went = subst (Went a b (taken ++ rest)) (sym owes) (record { taken = taken; rest = rest; split = refl; told = told; ran = Ran-moves a b taken moves });
      ends = ends;
      read_out = λ whole. absurd cc;
    }

pub IfSome-IsAtEnd : (left : Option (List ℕ)) → IsAtEnd left → IfSome left (λ bytes. bytes ≡ [])
IfSome-IsAtEnd None at_end = tt
IfSome-IsAtEnd (Some bytes) at_end = at_end

told_input : (taken rest input all : List ℕ) (before after : Option (List ℕ)) → before ≡ prepend_known taken after → IfSome after (λ bytes. bytes ≡ rest) → taken ++ rest ≡ input → before ≡ Some all → input ≡ all
told_input taken rest input all before None moved told split is = absurd (let e : ◌≡◌ {A = Option (List ℕ)} None (Some all) = sym moved ∙ is in cc)
told_input taken rest input all before (Some left) moved told split is =
    let e : ◌≡◌ {A = Option (List ℕ)} (Some (taken ++ left)) (Some all) = sym moved ∙ is in
    let same : taken ++ left ≡ all = cc in
    sym split ∙ (ap (λ l. taken ++ l) (sym told) ∙ same)

-- if the input is told, it is the bytes of the run
Ends-input : {F : Type 0} (course_of : List ℕ → Course F) (a b : Meanings) (ending : Option F) (input : List ℕ) → left a inlet.Main ≡ Some input → (ends : Ends course_of a b ending) → ends.input ≡ input
Ends-input course_of a b ending input is ends =
    let went = ends.went in
    told_input went.taken went.rest ends.input input (left a inlet.Main) (left b inlet.Main) went.ran.input went.told went.split is

-- then the run is that of its course
pub Ends-told : {F : Type 0} (course_of : List ℕ → Course F) (a b : Meanings) (ending : Option F) (input : List ℕ) → left a inlet.Main ≡ Some input → Ends course_of a b ending
    → (made b outlet.Main ≡ append_known (made a outlet.Main) (bytes_for outlet.Main (owed (course_of input)))) × (made b outlet.Report ≡ append_known (made a outlet.Report) (bytes_for outlet.Report (owed (course_of input)))) × ((course_of input).ending ≡ ending)
Ends-told {F = F} course_of a b ending input is ends =
    let same = Ends-input course_of a b ending input is ends in (
      ends.went.ran.output ∙ ap (λ l. append_known (made a outlet.Main) (bytes_for outlet.Main (owed (course_of l)))) same,
      ends.went.ran.report ∙ ap (λ l. append_known (made a outlet.Report) (bytes_for outlet.Report (owed (course_of l)))) same,
      ap (λ l. (course_of l).ending) (sym same) ∙ ends.ends,
    )

-- and its answer is the one for the input
pub Finishes-told : {A F : Type 0} (work : Work A F) (a b : Meanings) (answer : A) (input : List ℕ) → left a inlet.Main ≡ Some input → Finishes work a b answer → answer ≡ work.answer input
Finishes-told work a b answer input is done = done.answered ∙ ap work.answer (Ends-input work.course a b None input is done.ends)
