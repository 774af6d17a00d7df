pub mod Rows
pub mod Latest
pub mod Marking
pub mod Counting
pub mod Filling
