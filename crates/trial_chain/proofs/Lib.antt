pub mod TrialHistories
pub mod TrialHeld
