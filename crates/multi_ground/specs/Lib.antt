pub mod Grounds
pub mod MultiRun
pub mod MultiOutputs
pub mod Receiving
pub mod Apart
pub mod Worked
