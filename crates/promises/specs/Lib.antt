pub mod Events
pub mod Runs
pub mod Marks
pub mod Readings
pub mod Example
