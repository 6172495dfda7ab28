pub mod Crc
pub mod Parts
pub mod Frames
