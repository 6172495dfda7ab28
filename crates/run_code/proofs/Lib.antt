pub mod Ones
pub mod EdgeWords
pub mod Filling
pub mod RunWords
pub mod InverseBits
pub mod Spreading
pub mod Gathering
mod RunFronts
mod Turning
mod BitMoves
mod Upward
