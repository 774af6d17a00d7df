pub mod Ruled
pub mod Standing
