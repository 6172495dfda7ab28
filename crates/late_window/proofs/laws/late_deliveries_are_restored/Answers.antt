use Rattle.late_window.proofs.LateDeliveries.{late-delivery, ordered-delivery, short-gaps}
use Rattle.late_window.proofs.Held.{owed-late}
use Rattle.late_window.proofs.laws.late_deliveries_are_restored.Goals as goal

pub returns-clause-order : goal.returns-clause-order
returns-clause-order c = λ h copies window numbers is. ordered-delivery h is

pub returns-clause-none : goal.returns-clause-none
returns-clause-none c = λ h copies window numbers is. late-delivery h is

pub returns-clause-gaps : goal.returns-clause-gaps
returns-clause-gaps c = λ n copies window numbers is. short-gaps is

pub returns-clause-restored : goal.returns-clause-restored
returns-clause-restored c = λ h copies apid window store numbers valid delivery arrives whole. owed-late h copies apid window store numbers valid delivery arrives whole
