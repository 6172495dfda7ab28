pub mod Given
pub mod Performed
pub mod Kept
pub mod TextsFirst
mod Headline
pub mod Faults
pub mod Apart
