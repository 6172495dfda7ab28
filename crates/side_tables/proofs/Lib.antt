pub mod RowTexts
pub mod RowKinds
pub mod StreamRows
pub mod Claimed
