pub mod Calling
pub mod Verdicts
pub mod Running
pub mod Comparing
pub mod Sharing
pub mod Settling
pub mod Exampling
pub mod Owning
