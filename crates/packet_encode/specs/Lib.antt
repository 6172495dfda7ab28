pub mod Encoder
pub mod Saved
pub mod Forms
pub mod Deliveries
