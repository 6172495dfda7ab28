pub mod Lines
pub mod Order
pub mod Late
pub mod Restoring
pub mod Deliveries
pub mod Worked
