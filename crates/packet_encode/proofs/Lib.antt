pub mod Deliveries
pub mod Packets
pub mod SavedEncoders
