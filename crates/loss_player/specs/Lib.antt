pub mod Copied
pub mod Tallies
pub mod Played
pub mod Report
pub mod Playing
pub mod Worked
