pub mod Records
pub mod Frames
pub mod Keeping
mod Turns
mod Whole
mod Strides
pub mod Stepping
pub mod Walking
mod Laid
mod Parting
pub mod Weighing
pub mod Writes
mod WeighTurns
pub mod Sizing
