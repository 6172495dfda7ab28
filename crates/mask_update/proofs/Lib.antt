pub mod StepByStep
pub mod Moving
pub mod Standing
