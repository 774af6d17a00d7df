pub mod Slot
pub mod Rows
