mod Sound
pub mod Told
pub mod HistoryPackets
pub mod HistoryRuns
pub mod HistoryRows
pub mod ListedRows
pub mod EveryRun
mod FirstWrong
mod TakenOut
pub mod RestCourses
pub mod DeliveredRuns
pub mod Reckonings
