pub mod CountWords
pub mod ExactCounts
pub mod LeastCounts
