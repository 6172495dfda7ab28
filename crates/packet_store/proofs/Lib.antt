pub mod Packets
pub mod Walks
pub mod Reading
pub mod StoreTurns
