pub mod SpacePackets
pub mod Walks
pub mod Answers
pub mod StoreReader
pub mod StoreWriter
