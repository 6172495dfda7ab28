use Rattle.std.proofs.Common.{◌≡◌, ℕ, List, [], ◌++◌, Option, Some, None, refl, sym, ap, ◌∙◌, subst}
use Rattle.std.specs.Option.{option_map}
use Rattle.desk_ports.specs.Courses.{owed, texts_of}
use Rattle.packet_store.specs.Walks.{walk}
use Rattle.packet_store.specs.declared.fault.WalkFault.{WalkFault}
use Rattle.ground_chain.specs.Deliveries.{report_text, restored_bytes}
use Rattle.late_window.specs.Restoring.{late_course}
use Rattle.late_window.specs.Order.{late_row}
use Rattle.late_window.proofs.Held.{owed-late}
use Rattle.late_window.proofs.Rests.{owed-whole}
use Rattle.pocket_cmd.specs.declared.verbs.Verb.TheVariants.{Late}
use Rattle.pocket_cmd.specs.Words.{Words, apid, bits, window}
use Rattle.pocket_cmd.specs.Delivery.{IsInputWhole}
use Rattle.pocket_cmd.specs.Courses.{of_store}
use Rattle.pocket_cmd.proofs.Faults.{owed-with_fault}
use Rattle.pocket_cmd.proofs.laws.late_stores_owe_their_order.Goals as goal

-- a course whose fault is named otherwise ends as it does
none_named : (ending : Option WalkFault) → option_map of_store ending ≡ None → ending ≡ None
none_named None is = refl
none_named (Some fault) is = absurd cc

whole_walk : (l : Words) (store : List ℕ) → IsInputWhole (Late, l) store → (walk (Some (apid l)) store).ending ≡ None
whole_walk l store whole = none_named (walk (Some (apid l)) store).ending (whole.ends [])

pub returns-clause-order : goal.returns-clause-order
returns-clause-order c = λ l store whole.
    sym (ap texts_of (owed-with_fault of_store (late_course (bits l) (apid l) (window l) store))) ∙ owed-whole (bits l) (apid l) (window l) store (whole_walk l store whole)

pub returns-clause-restored : goal.returns-clause-restored
returns-clause-restored c = λ l h copies store numbers whole valid places delivery arrives.
    sym (ap texts_of (owed-with_fault of_store (late_course (bits l) (apid l) (window l) store)))
    ∙ subst (λ f. texts_of (owed (late_course f (apid l) (window l) store)) ≡ record { output = restored_bytes h copies; report = report_text h copies ++ late_row 0 }) places
    (owed-late h copies (apid l) (window l) store numbers valid delivery arrives (whole_walk l store whole))
