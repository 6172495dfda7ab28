-- What the desk of a trial holds after each of its runs, and keeps through their calls.
use Rattle.std.specs.Cmp.Lexicographic.{bytes_decides, slice_cmp}
use Rattle.std.specs.FinMap as map
use Rattle.std.specs.Io.KnownBytes.{append_known}
use Rattle.std.specs.Option.{option_map}
use Rattle.std.specs.Ordering.{nat_cmp}
use Rattle.std.specs.Prelude.{Contains, slice_index_or}
use Rattle.std.specs.Str.{bytes_eq}
use Rattle.std.proofs.Common.{◌≡◌, ℕ, true, List, [], Option, Some, None, Result, Ok, Err, IfOk, OnOk, unwrap_or, sym, ap, subst, ◌∙◌, IsSome, IfSome, OnErr, ◌<◌, Bool, false, cond, arith, refl}
use Rattle.std.proofs.Math.Path.{fun_ext}
use Rattle.std.proofs.lemmas.Bool.{true≢false}
use Rattle.std.proofs.lemmas.Cmp.{nat_list_cmp_total, nat_list_eq_equiv}
use Rattle.std.proofs.lemmas.Map.Text.{is_eq-slice_cmp}
use Rattle.desk_ports.specs.Courses.{Course, Ends, owed, texts_of}
use Rattle.desk_ports.specs.Meanings.{Meanings, Kept, Keeps, kept_after, kept_at, left, made, Begins, Opens, outgoing, with_outgoing}
use Rattle.desk_ports.specs.MemState.{MemState, IsCalled, NothingFails, mem_meanings}
use Rattle.desk_ports.specs.declared.calls.Call.TheVariants as call
use Rattle.desk_ports.specs.declared.desk.Inlet.TheVariants as inlet
use Rattle.desk_ports.specs.declared.desk.Outlet.{Outlet}
use Rattle.desk_ports.specs.declared.desk.Outlet.TheVariants as outlet
use Rattle.desk_ports.proofs.Courses.{Ends-told}
use Rattle.desk_ports.proofs.Desks.{IsSome-insert, kept_here}
use Rattle.side_tables.specs.Rows.{copies_of}
use Rattle.side_tables.specs.declared.rows.CopyRow.{CopyRow}
use Rattle.flight_chain.specs.Compressing.{Compression, compress_course}
use Rattle.loss_player.specs.Playing.{PlayerState, play_course}
use Rattle.ground_chain.specs.Restoring.{RestorerState, restore_course}
use Rattle.trial_chain.specs.Stages.{HoldsJust, RunState, run_meanings, run_opened, run_reported, with_outputs, IsRunDesk, HoldsTrial, held_played, held_recording, held_restored, held_store, play_name, played_name, played_outputs, recording_name, report_name, restored_name, restored_outputs, store_name, trial_names, trial_played, trial_store}
use Rattle.trial_chain.specs.Trials.{IsTrial, trial_copies, trial_recording}
use Rattle.trial_chain.proofs.TrialHistories.{owed-recording, owed-restored, owed-store, trial_flight}

-- ---- what is held after a run whose outputs are finished

held_by : (a b : Kept) → ◌≡◌ {A = Option Kept} (Some a) (Some b) → a ≡ b
held_by a b e = cc

-- the desk of a run holds what the desk before it held
pub held_reported : (desk : MemState) (input output report : List ℕ) (run : RunState) → run_meanings run ≡ run_reported desk input output report → run.desk.held ≡ desk.held
held_reported desk input output report run opened = held_by _ _ (ap (λ (m : Meanings). m.held) opened)

-- so it is opened over itself
pub run_opened-own : (desk : MemState) (input output : List ℕ) (run : RunState) → run_meanings run ≡ run_opened desk input output → run_meanings run ≡ run_opened run.desk input output
run_opened-own desk input output run opened =
    opened ∙ sym (ap (λ (m : Meanings). record m { input = record { left = Some (kept_at (unwrap_or m.held map.empty) input); ready = true }; output = record { made = Some []; name = Some output; ready = true }; grants_in = λ name. bytes_eq name input }) opened)

pub run_reported-own : (desk : MemState) (input output report : List ℕ) (run : RunState) → run_meanings run ≡ run_reported desk input output report → run_meanings run ≡ run_reported run.desk input output report
run_reported-own desk input output report run opened =
    opened
    ∙ sym (ap (λ (m : Meanings). record m {
      input = record { left = Some (kept_at (unwrap_or m.held map.empty) input); ready = true };
      output = record { made = Some []; name = Some output; ready = true };
      report = record { made = Some []; name = Some report; ready = true };
      grants_in = λ name. bytes_eq name input;
    }) opened)

-- the output, and so what it made
kept_main : {F : Type 0} (desk : MemState) (input output : List ℕ) (course : List ℕ → Course F) (b c d : Meanings) → left b inlet.Main ≡ Some (kept_at desk.held input) → b.output ≡ record { made = Some []; name = Some output; ready = true }
    → b.held ≡ Some desk.held → Ends course b c None → Keeps c d outlet.Main → d.held ≡ Some (map.insert desk.held output (texts_of (owed (course (kept_at desk.held input)))).output)
kept_main desk input output course b c d told empty held ends keeps =
    let others = ends.went.ran.others in
    let bytes = (texts_of (owed (course (kept_at desk.held input)))).output in
    let written : made c outlet.Main ≡ Some bytes = (Ends-told course b c None (kept_at desk.held input) told ends).0 ∙ ap (λ o. append_known o.made bytes) empty in
    let name : c.output.name ≡ Some output = ap (λ (m : Meanings). m.output.name) others ∙ ap (λ o. o.name) empty in
    let same : c.held ≡ Some desk.held = ap (λ (m : Meanings). m.held) others ∙ held in
    ap (λ (m : Meanings). m.held) keeps ∙ λ i. kept_after (same i) (name i) (written i)

pub kept_output : {F : Type 0} (desk : MemState) (after : Kept) (input output : List ℕ) (course : List ℕ → Course F) (b c d : Meanings) → b ≡ run_opened desk input output → Ends course b c None → Keeps c d outlet.Main
    → d.held ≡ Some after → after ≡ map.insert desk.held output (texts_of (owed (course (kept_at desk.held input)))).output
kept_output desk after input output course b c d opened ends keeps is =
    held_by _ _ (sym is ∙ kept_main desk input output course b c d (ap (λ (m : Meanings). m.input.left) opened) (ap (λ (m : Meanings). m.output) opened) (ap (λ (m : Meanings). m.held) opened) ends keeps)

-- and the report
pub kept_outputs : {F : Type 0} (desk : MemState) (after : Kept) (input output report : List ℕ) (course : List ℕ → Course F) (b c d e : Meanings) → b ≡ run_reported desk input output report → Ends course b c None
    → Keeps c d outlet.Main → Keeps d e outlet.Report → e.held ≡ Some after → after ≡ with_outputs desk.held output report (texts_of (owed (course (kept_at desk.held input))))
kept_outputs desk after input output report course b c d e opened ends main noted is =
    let others = ends.went.ran.others in
    let told = ap (λ (m : Meanings). m.input.left) opened in
    let all = texts_of (owed (course (kept_at desk.held input))) in
    let held = kept_main desk input output course b c d told (ap (λ (m : Meanings). m.output) opened) (ap (λ (m : Meanings). m.held) opened) ends main in
    let written : made d outlet.Report ≡ Some all.report =
    ap (λ (m : Meanings). m.report.made) main ∙ ((Ends-told course b c None (kept_at desk.held input) told ends).1 ∙ ap (λ (m : Meanings). append_known m.report.made all.report) opened) in
    let name : d.report.name ≡ Some report = ap (λ (m : Meanings). m.report.name) main ∙ (ap (λ (m : Meanings). m.report.name) others ∙ ap (λ (m : Meanings). m.report.name) opened) in
    held_by _ _ (sym is ∙ (ap (λ (m : Meanings). m.held) noted ∙ λ i. kept_after (held i) (name i) (written i)))

-- what is held after a run that answered
pub held_ended : {A E F : Type 0} (r : Result (MemState × A) E) (answer : Result A F) (left now : Kept) → IfOk r (λ after. HoldsJust after.0 left) → IfOk r (λ after. answer ≡ Ok after.1) → OnOk answer (left ≡ now) → IfOk r (λ after. HoldsJust after.0 now)
held_ended (Ok after) answer left now just is so = (just.0, just.1 ∙ subst (λ a. OnOk a (left ≡ now)) is so)
held_ended (Err fault) answer left now just is so = tt

-- what is known of its answer
pub answer_ended : {A E F : Type 0} (r : Result (MemState × A) E) (answer : Result A F) (P : A → Type 0) → IfOk r (λ after. answer ≡ Ok after.1) → IfOk answer P → IfOk r (λ after. P after.1)
answer_ended (Ok after) answer P is so = subst (λ a. IfOk a P) is so
answer_ended (Err fault) answer P is so = tt

-- ---- what a desk for one run keeps through its calls

-- finishing an output
pub IsRunDesk-finish : {E : Type 0} (old new : MemState) (input : List ℕ) (o : Outlet) (r : Result (Unit {0}) E) → OnOk r (Keeps (mem_meanings old) (mem_meanings new) o) → OnErr r (mem_meanings new ≡ mem_meanings old)
    → IsCalled old new call.Finish → IsRunDesk old input → IsRunDesk new input
IsRunDesk-finish {E = E} old new input o r keeps same called was =
    record { nothing = subst NothingFails (sym called.numbered) (record { open_in = was.nothing.open_in; open_out = was.nothing.open_out; read = was.nothing.read; write = was.nothing.write; finish = was.nothing.finish }); held = kept r o keeps same }
  where
    IsHeld : Option Kept → Type 0
    IsHeld held = IfSome held (λ kept. IsSome (map.get kept input))

    kept : (r : Result (Unit {0}) E) (o : Outlet) → OnOk r (Keeps (mem_meanings old) (mem_meanings new) o) → OnErr r (mem_meanings new ≡ mem_meanings old) → IsSome (map.get new.held input)
    kept (Ok done) outlet.Main keeps same = subst IsHeld (sym (ap (λ m. m.held) keeps)) (IsSome-insert old.held old.output.name old.output.made input was.held)
    kept (Ok done) outlet.Report keeps same = subst IsHeld (sym (ap (λ m. m.held) keeps)) (IsSome-insert old.held old.report.name old.report.made input was.held)
    kept (Err failed) o keeps same = subst IsHeld (sym (ap (λ m. m.held) same)) was.held

-- the input and the output of a run are opened
pub run_opened-is : (desk : MemState) (input output : List ℕ) (b c : Meanings) → Opens (run_meanings (record { desk = desk; input = input })) b inlet.Main input → Begins b c outlet.Main output
    → c ≡ run_opened desk input output
run_opened-is desk input output b c opens begins =
    let at : Meanings = run_meanings (record { desk = desk; input = input }) in
    begins
    ∙ (ap (λ (m : Meanings). with_outgoing m outlet.Main (record { made = option_map (λ _. []) (made m outlet.Main); name = option_map (λ _. output) (outgoing m outlet.Main).name; ready = true })) opens.others
    ∙ ap (λ bytes. record at { input = record { left = Some bytes; ready = true }; output = record { made = Some []; name = Some output; ready = true } }) opens.kept)

-- ---- what a trial's desk holds after each of its runs

get_insert : (kept : Kept) (name bytes sought : List ℕ) → map.get (map.insert kept name bytes) sought ≡ cond (bytes_eq sought name) (Some bytes) (map.get kept sought)
get_insert kept name bytes sought = map.get-insert nat_list_cmp_total kept name bytes sought ∙ ap (λ same. cond same (Some bytes) (map.get kept sought)) (is_eq-slice_cmp sought name)

get_here : (kept : Kept) (name bytes : List ℕ) → map.get (map.insert kept name bytes) name ≡ Some bytes
get_here kept name bytes = get_insert kept name bytes name ∙ ap (λ same. cond same (Some bytes) (map.get kept name)) (nat_list_eq_equiv.refl name)

get_apart : (kept : Kept) (name bytes sought : List ℕ) → bytes_eq sought name ≡ false → map.get (map.insert kept name bytes) sought ≡ map.get kept sought
get_apart kept name bytes sought apart = get_insert kept name bytes sought ∙ ap (λ same. cond same (Some bytes) (map.get kept sought)) apart

-- a name that has something is the latest one, which is among the six, or had it before
one_of : (kept : Kept) (name bytes sought : List ℕ) (place : ℕ) → place < 6 → slice_index_or trial_names place sought ≡ name → (IsSome (map.get kept sought) → Contains trial_names sought)
    → IsSome (map.get (map.insert kept name bytes) sought) → Contains trial_names sought
one_of kept name bytes sought place few there before some = by_name (bytes_eq sought name) refl (subst IsSome (get_insert kept name bytes sought) some)
  where
    by_name : (same : Bool) → bytes_eq sought name ≡ same → IsSome (cond same (Some bytes) (map.get kept sought)) → Contains trial_names sought
    by_name true is some = (place, few, there ∙ sym ((bytes_decides sought name).0 is))
    by_name false is some = before some

pub IsSome-here : (kept before : Kept) (name bytes : List ℕ) → kept ≡ map.insert before name bytes → IsSome (map.get kept name)
IsSome-here kept before name bytes is = subst IsSome (sym (ap (λ (k : Kept). map.get k name) is ∙ get_here before name bytes)) refl

kept_latest : (kept before : Kept) (name bytes : List ℕ) → kept ≡ map.insert before name bytes → kept_at kept name ≡ bytes
kept_latest kept before name bytes is = ap (λ (k : Kept). kept_at k name) is ∙ kept_here before name bytes name (nat_list_eq_equiv.refl name)

-- ---- the recording

pub kept-recording : (seed packets f : ℕ) (held : Kept) → held ≡ held_recording seed packets f → kept_at held recording_name ≡ trial_recording seed packets f
kept-recording seed packets f held is = kept_latest held map.empty recording_name (trial_recording seed packets f) is

-- ---- the store

pub held-compressed : (seed packets f robust : ℕ) → IsTrial packets f robust → (before after : Kept) (flight : Compression) → before ≡ held_recording seed packets f → flight ≡ trial_flight f robust
    → after ≡ map.insert before store_name (texts_of (owed (compress_course flight (kept_at before recording_name)))).output → after ≡ held_store seed packets f robust
held-compressed seed packets f robust trial before after flight started opened is =
    is ∙ λ i. map.insert (started i) store_name
    (((λ j. (texts_of (owed (compress_course (opened j) (kept-recording seed packets f before started j)))).output) ∙ owed-recording seed packets f robust trial) i)

pub kept-store : (seed packets f robust : ℕ) (held : Kept) → held ≡ held_store seed packets f robust → kept_at held store_name ≡ trial_store seed packets f robust
kept-store seed packets f robust held is = kept_latest held (held_recording seed packets f) store_name (trial_store seed packets f robust) is

-- ---- the played store

pub same-copies : (seed packets : ℕ) (rows script : List CopyRow) → rows ≡ script → ((t : ℕ) → copies_of script t ≡ trial_copies seed packets t) → copies_of rows ≡ trial_copies seed packets
same-copies seed packets rows script is so = ap copies_of is ∙ fun_ext so

pub held-played : (seed packets f robust : ℕ) → IsTrial packets f robust → (before after : Kept) (player : PlayerState) → before ≡ held_store seed packets f robust → player.apid ≡ 100 → copies_of player.rows ≡ trial_copies seed packets
    → after ≡ with_outputs before played_name play_name (texts_of (owed (play_course (copies_of player.rows) player.apid (kept_at before store_name)))) → after ≡ held_played seed packets f robust
held-played seed packets f robust trial before after player started apid copies is =
    is ∙ λ i. with_outputs (started i) played_name play_name
    (((λ j. texts_of (owed (play_course (copies j) (apid j) (kept-store seed packets f robust before started j)))) ∙ owed-store seed packets f robust (trial_copies seed packets) trial) i)

pub kept-played : (seed packets f robust : ℕ) (held : Kept) → held ≡ held_played seed packets f robust → kept_at held played_name ≡ trial_played seed packets f robust
kept-played seed packets f robust held is =
    let all = played_outputs seed packets f robust in
    ap (λ (o : Option (List ℕ)). unwrap_or o []) (ap (λ (k : Kept). map.get k played_name) is
    ∙ (get_apart (map.insert (held_store seed packets f robust) played_name all.output) play_name all.report played_name refl ∙ get_here (held_store seed packets f robust) played_name all.output))

pub IsSome-played : (seed packets f robust : ℕ) (held : Kept) → held ≡ held_played seed packets f robust → IsSome (map.get held played_name)
IsSome-played seed packets f robust held is =
    let all = played_outputs seed packets f robust in
    subst IsSome (sym (ap (λ (k : Kept). map.get k played_name) is
    ∙ (get_apart (map.insert (held_store seed packets f robust) played_name all.output) play_name all.report played_name refl ∙ get_here (held_store seed packets f robust) played_name all.output))) refl

-- ---- the restored packets

pub held-restored : (seed packets f robust : ℕ) → IsTrial packets f robust → (before after : Kept) (restorer : RestorerState) → before ≡ held_played seed packets f robust → restorer ≡ record { places = f; apid = 100 }
    → after ≡ with_outputs before restored_name report_name (texts_of (owed (restore_course restorer.places restorer.apid (kept_at before played_name))))
    → after ≡ held_restored seed packets f robust
held-restored seed packets f robust trial before after restorer started opened is =
    is ∙ λ i. with_outputs (started i) restored_name report_name
    (((λ j. texts_of (owed (restore_course (opened j).places (opened j).apid (kept-played seed packets f robust before started j)))) ∙ owed-restored seed packets f robust trial) i)

-- all six, and nothing else
pub HoldsTrial-held : (seed packets f robust : ℕ) (held : Kept) → held ≡ held_restored seed packets f robust → HoldsTrial seed packets f robust held
HoldsTrial-held seed packets f robust held is =
    let recording = trial_recording seed packets f in
    let store = trial_store seed packets f robust in
    let played = played_outputs seed packets f robust in
    let restored = restored_outputs seed packets f robust in
    let k0 : Kept = held_recording seed packets f in
    let k1 : Kept = held_store seed packets f robust in
    let k2 : Kept = map.insert k1 played_name played.output in
    let k3 : Kept = held_played seed packets f robust in
    let k4 : Kept = map.insert k3 restored_name restored.output in
    record {
      recording = ap (λ (k : Kept). map.get k recording_name) is
          ∙ (get_apart k4 report_name restored.report recording_name refl ∙ (get_apart k3 restored_name restored.output recording_name refl ∙ (get_apart k2 play_name played.report recording_name refl
          ∙ (get_apart k1 played_name played.output recording_name refl ∙ (get_apart k0 store_name store recording_name refl ∙ get_here map.empty recording_name recording)))));
      store = ap (λ (k : Kept). map.get k store_name) is
          ∙ (get_apart k4 report_name restored.report store_name refl ∙ (get_apart k3 restored_name restored.output store_name refl ∙ (get_apart k2 play_name played.report store_name refl
          ∙ (get_apart k1 played_name played.output store_name refl ∙ get_here k0 store_name store))));
      played = ap (λ (k : Kept). map.get k played_name) is
          ∙ (get_apart k4 report_name restored.report played_name refl ∙ (get_apart k3 restored_name restored.output played_name refl ∙ (get_apart k2 play_name played.report played_name refl ∙ get_here k1 played_name played.output)));
      play = ap (λ (k : Kept). map.get k play_name) is
          ∙ (get_apart k4 report_name restored.report play_name refl ∙ (get_apart k3 restored_name restored.output play_name refl ∙ get_here k2 play_name played.report));
      restored = ap (λ (k : Kept). map.get k restored_name) is ∙ (get_apart k4 report_name restored.report restored_name refl ∙ get_here k3 restored_name restored.output);
      report = ap (λ (k : Kept). map.get k report_name) is ∙ get_here k4 report_name restored.report;
      others = λ name some.
          one_of k4 report_name restored.report name 5 (omega arith) refl (one_of k3 restored_name restored.output name 4 (omega arith) refl
          (one_of k2 play_name played.report name 3 (omega arith) refl (one_of k1 played_name played.output name 2 (omega arith) refl
          (one_of k0 store_name store name 1 (omega arith) refl (one_of map.empty recording_name recording name 0 (omega arith) refl
          (λ none. absurd (true≢false (sym (subst IsSome (map.get-empty (slice_cmp nat_cmp) name) none))))))))) (subst (λ (k : Kept). IsSome (map.get k name)) is some);
    }
