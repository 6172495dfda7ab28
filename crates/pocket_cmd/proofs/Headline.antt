-- What the commands hand on to one another, what restoring the played store of a history writes, and which commands are done.
use Rattle.std.specs.Option.{option_map}
use Rattle.std.specs.Prelude.{IfSome, unwrap_or}
use Rattle.std.proofs.Common.{◌≡◌, ℕ, ◌^◌, ◌<◌, ◌≤◌, List, [], length, All, sym, ap, ◌∙◌, subst, append-nil, arith, codes, Option, Some, None, Result, refl}
use Rattle.desk_ports.specs.Courses.{OutputTexts, Outputs, by_ending, owed, texts_of, to_output, to_report}
use Rattle.desk_ports.specs.Meanings.{Meanings}
use Rattle.desk_ports.specs.declared.desk.Inlet.TheVariants as inlet
use Rattle.desk_ports.specs.declared.desk.Outlet.TheVariants as outlet
use Rattle.desk_ports.proofs.Courses.{bytes_for-first, bytes_for-last, bytes_for-own}
use Rattle.mask_update.specs.Histories.{History, IsValid}
use Rattle.mask_update.proofs.StepByStep.{IsValid-history_of}
use Rattle.side_tables.specs.Grammar.{copy_rows_of, schedule_rows_of}
use Rattle.side_tables.specs.Rows.{copies_of, flags_of, robust_of}
use Rattle.side_tables.specs.Texts.{records_of}
use Rattle.side_tables.proofs.RowKinds.{robust_of-most}
use Rattle.packet_store.specs.Walks.{Walk, walk}
use Rattle.packet_encode.specs.Deliveries.{arrivals}
use Rattle.flight_chain.specs.Compressing.{store_of, compress_course, required_robustness}
use Rattle.flight_chain.specs.Recordings.{recording_walk}
use Rattle.flight_chain.proofs.Recordings.{IsWalk-recording}
use Rattle.loss_player.specs.Played.{AreGapsShort, played_bytes, played_of, store_numbers}
use Rattle.loss_player.specs.Playing.{play_course}
use Rattle.loss_player.specs.Report.{play_report}
use Rattle.ground_chain.specs.Deliveries.{report_text, restored_bytes}
use Rattle.ground_chain.specs.Restoring.{restore_course}
use Rattle.ground_chain.proofs.DeliveredRuns.{count-chosen, walk-played, whole-store_of, owed-played}
use Rattle.pocket_cmd.specs.Command.{IsRight, Command, names_of}
use Rattle.pocket_cmd.specs.Courses.{compression_by, course_of, of_recording, of_store, bad_row_of, bad_script_row_of}
use Rattle.pocket_cmd.specs.Delivery.{IsInputWhole, recorded_history, HasWritten, IsPlayedStore, IsScriptRight, IsSideRight}
use Rattle.pocket_cmd.specs.Outcome.{AfterCommand, Stands, answer_to, by_script}
use Rattle.pocket_cmd.specs.Status.{status_by, status_of}
use Rattle.pocket_cmd.specs.Words.{Words, apid, bits, mask, robust, text_of}
use Rattle.pocket_cmd.specs.declared.status.Refusal.{Refusal}
use Rattle.pocket_cmd.specs.declared.status.Status.{Status}
use Rattle.pocket_cmd.specs.declared.status.Status.TheVariants.{Done}
use Rattle.pocket_cmd.specs.declared.verbs.Verb.TheVariants.{Compress, Play, Restore}
use Rattle.pocket_cmd.proofs.Faults.{owed-with_fault, unmapped}
use Rattle.pocket_cmd.proofs.Given.{length-first_mask}
use Rattle.pocket_cmd.proofs.Performed.{by_text-right, HasWritten-stands, Stands-answer, ending_is}

-- ---- what the commands hand on to one another

required_most : (o : Option ℕ) (robust : ℕ) → IfSome o (λ given. given ≤ 7) → robust ≤ 7 → unwrap_or o robust ≤ 7
required_most None robust most least = least
required_most (Some given) robust most least = most

-- the history of a recording is valid
pub IsValid-recorded : (c : Words) (text recording : List ℕ) → IsRight (Compress, c) → All (λ b. b < 256) recording → IsValid (recorded_history c text recording)
IsValid-recorded c text recording right bytes =
    let (_, (_, ((least, most), (_, ((_, required), _))))) = right in
    let masked : length (mask c) ≡ bits c = length-first_mask (bits c) (text_of c (codes "mask")) in
    let w = IsWalk-recording (length recording) (bits c) 0 recording (omega arith) least (omega arith) bytes in
    IsValid-history_of (recording_walk (bits c) recording).inputs (flags_of (schedule_rows_of text).flags) (required_robustness (schedule_rows_of text).robust (robust c)) (bits c) (mask c)
    (omega (arith, masked, least), omega (arith, masked, most)) masked (let few = w.few in omega (arith, few)) w.places (λ t. required_most (robust_of (schedule_rows_of text).robust t) (robust c) (robust_of-most (records_of text) t) required)

-- what a whole recording owes is the store of its history
pub owed-recorded : (c : Words) (text recording : List ℕ) → IsInputWhole (Compress, c) recording
    → owed (course_of (Compress, c) text recording) ≡ to_output (store_of (recorded_history c text recording) (apid c))
owed-recorded c text recording whole =
    sym (owed-with_fault of_recording (compress_course (compression_by c text) recording))
    ∙ (ap (λ ending. by_ending ending (to_output (store_of (recorded_history c text recording) (apid c))) []) (unmapped of_recording (recording_walk (bits c) recording).ending (whole.ends text))
    ∙ append-nil (to_output (store_of (recorded_history c text recording) (apid c))))

-- what playing the store of a history owes
pub owed-played_store : (p : Words) (h : History) (text : List ℕ) → apid p ≤ 2046 → IsValid h
    → texts_of (owed (course_of (Play, p) text (store_of h (apid p))))
    ≡ record { output = played_bytes (copies_of (copy_rows_of text)) (apid p) (store_of h (apid p)); report = play_report (played_of (copies_of (copy_rows_of text)) (length h.steps)) }
owed-played_store p h text chosen valid =
    let copies : ℕ → ℕ = copies_of (copy_rows_of text) in
    let store : List ℕ = store_of h (apid p) in
    sym (ap texts_of (owed-with_fault of_store (play_course copies (apid p) store)))
    ∙ (ap (λ ending. texts_of (by_ending ending (to_output (played_bytes copies (apid p) store)) (to_report (play_report (store_numbers copies (apid p) store))))) (whole-store_of h (apid p) valid chosen)
    ∙ (let bytes = played_bytes copies (apid p) store in
    let report = play_report (store_numbers copies (apid p) store) in
    (λ i. record { output = bytes_for-first outlet.Main bytes report i; report = bytes_for-last outlet.Report bytes report i }) ∙ λ i. record { output = bytes; report = play_report (played_of copies (count-chosen h (apid p) valid chosen i)) }))

pub IsInputWhole-history : (p : Words) (h : History) → apid p ≤ 2046 → IsValid h → IsInputWhole (Play, p) (store_of h (apid p))
IsInputWhole-history p h chosen valid = record { right = tt; ends = λ text. ap (option_map of_store) (whole-store_of h (apid p) valid chosen) }

-- what restoring it owes
ending-played : (r : Words) (h : History) (copies : ℕ → ℕ) → apid r ≤ 2046 → IsValid h → length (arrivals copies (length h.steps)) ≤ 2 ^ 32
    → (walk (Some (apid r)) (played_bytes copies (apid r) (store_of h (apid r)))).ending ≡ None
ending-played r h copies chosen valid few = ap (λ (w : Walk). w.ending) (walk-played h copies (apid r) valid chosen few)

pub whole-restored : (r : Words) (h : History) (copies : ℕ → ℕ) → apid r ≤ 2046 → IsValid h → length (arrivals copies (length h.steps)) ≤ 2 ^ 32
    → IsInputWhole (Restore, r) (played_bytes copies (apid r) (store_of h (apid r)))
whole-restored r h copies chosen valid few = record { right = tt; ends = λ text. ap (option_map of_store) (ending-played r h copies chosen valid few) }

pub owed-restored : (r : Words) (h : History) (copies : ℕ → ℕ) → apid r ≤ 2046 → IsValid h → h.places ≡ bits r → AreGapsShort copies (length h.steps) → length (arrivals copies (length h.steps)) ≤ 2 ^ 32
    → texts_of (owed (course_of (Restore, r) [] (played_bytes copies (apid r) (store_of h (apid r))))) ≡ record { output = restored_bytes h copies; report = report_text h copies }
owed-restored r h copies chosen valid places short few =
    let store : List ℕ = played_bytes copies (apid r) (store_of h (apid r)) in
    sym (ap texts_of (owed-with_fault of_store (restore_course (bits r) (apid r) store)))
    ∙ subst (λ f. texts_of (owed (restore_course f (apid r) store)) ≡ record { output = restored_bytes h copies; report = report_text h copies }) places
    (owed-played h copies (apid r) valid chosen short (ending-played r h copies chosen valid few))

-- all three
pub owed-chain : (c p r : Words) (plan script recording : List ℕ)
    → IsValid (recorded_history c plan recording) → apid p ≤ 2046 → apid p ≡ apid c → apid r ≡ apid c → bits r ≡ bits c → IsInputWhole (Compress, c) recording
    → AreGapsShort (copies_of (copy_rows_of script)) (length (recorded_history c plan recording).steps) → length (arrivals (copies_of (copy_rows_of script)) (length (recorded_history c plan recording).steps)) ≤ 2 ^ 32
    → texts_of (owed (course_of (Restore, r) [] (texts_of (owed (course_of (Play, p) script (texts_of (owed (course_of (Compress, c) plan recording))).output))).output))
    ≡ record { output = restored_bytes (recorded_history c plan recording) (copies_of (copy_rows_of script)); report = report_text (recorded_history c plan recording) (copies_of (copy_rows_of script)) }
owed-chain c p r plan script recording valid chosen same_play same_restore same_bits whole short few =
    let h : History = recorded_history c plan recording in
    let copies : ℕ → ℕ = copies_of (copy_rows_of script) in
    let restoring : apid r ≤ 2046 = omega (arith, chosen, same_play, same_restore) in
    let stored : (texts_of (owed (course_of (Compress, c) plan recording))).output ≡ store_of h (apid p) =
    ap (λ (all : Outputs). (texts_of all).output) (owed-recorded c plan recording whole) ∙ (bytes_for-own outlet.Main (store_of h (apid c)) ∙ ap (store_of h) (sym same_play)) in
    let handed : (texts_of (owed (course_of (Play, p) script (texts_of (owed (course_of (Compress, c) plan recording))).output))).output ≡ played_bytes copies (apid r) (store_of h (apid r)) =
    ap (λ store. (texts_of (owed (course_of (Play, p) script store))).output) stored
    ∙ (ap (λ (all : OutputTexts). all.output) (owed-played_store p h script chosen valid)
    ∙ ap (λ apid. played_bytes copies apid (store_of h apid)) (same_play ∙ sym same_restore)) in
    ap (λ store. texts_of (owed (course_of (Restore, r) [] store))) handed ∙ owed-restored r h copies restoring valid (sym same_bits) short few

-- ---- what restoring the played store of a history writes, and which commands are done

-- what a completed restoration of such a store has written
HasWritten-played : (r : Words) (h : History) (copies : ℕ → ℕ) (old new : Meanings) → IsRight (Restore, r) → IsPlayedStore r h copies old → Stands (Restore, r) old new None
    → HasWritten (names_of (Restore, r)) (record { output = restored_bytes h copies; report = report_text h copies }) new
HasWritten-played r h copies old new right played stands =
    let (_, (_, (_, (_, (chosen, _))))) = right in
    let store : List ℕ = played_bytes copies (apid r) (store_of h (apid r)) in
    let ending = ending_is (names_of (Restore, r)) (course_of (Restore, r) stands.text) old new None store stands.after.1 played.told in
    let whole = unmapped of_store (walk (Some (apid r)) store).ending ending in
    let owed_is = subst (λ f. texts_of (owed (restore_course f (apid r) store)) ≡ record { output = restored_bytes h copies; report = report_text h copies }) played.places (owed-played h copies (apid r) played.valid chosen.1 played.gaps whole) in
    subst (λ (all : OutputTexts). HasWritten (names_of (Restore, r)) all new) (sym (ap texts_of (owed-with_fault of_store (restore_course (bits r) (apid r) store))) ∙ owed_is)
    (HasWritten-stands (Restore, r) old new [] store stands refl played.told)

pub HasWritten-restored : (command : Command) (r : Words) (h : History) (copies : ℕ → ℕ) (old new : Meanings) (answer : Result (Unit {0}) Refusal) → command ≡ (Restore, r) → IsRight (Restore, r) → IsPlayedStore r h copies old
    → AfterCommand command old new answer → status_by answer ≡ Done
    → HasWritten (names_of (Restore, r)) (record { output = restored_bytes h copies; report = report_text h copies }) new
HasWritten-restored command r h copies old new answer is right played after done =
    HasWritten-played r h copies old new right played (subst (λ command. Stands command old new None) is (Stands-answer command old new answer None after done))

-- ---- completeness

-- a right text is answered by what comes after it
by_script-right : (script : Option (List ℕ → Option ℕ)) (input : List ℕ) (status : Status) → IsScriptRight script input → by_script script input status ≡ status
by_script-right None input status right = refl
by_script-right (Some bad_row) input status right = by_text-right inlet.Main bad_row input status right

-- a right side text and a whole input are answered with Done
pub Done-whole : (command : Command) (text input : List ℕ) → IsSideRight command text → IsInputWhole command input → answer_to command text input ≡ Done
Done-whole command text input right whole =
    let status : Status = status_of (course_of command text input).ending in
    by_text-right inlet.Side (bad_row_of command) text (by_script (bad_script_row_of command) input status) right ∙ (by_script-right (bad_script_row_of command) input status whole.right ∙ ap status_of (whole.ends text))
