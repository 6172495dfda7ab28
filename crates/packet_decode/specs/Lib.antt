pub mod Spelling
pub mod Answers
pub mod PacketReading
pub mod PartWords
pub mod Parts
pub mod State
pub mod Saved
