pub mod Shares
pub mod Windows
