pub mod Orders
pub mod Rests
pub mod Sortings
pub mod LateDeliveries
pub mod Held
