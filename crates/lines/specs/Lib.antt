pub mod Hex
pub mod Lines
pub mod Replies
pub mod Gathers
pub mod Shown
pub mod Serves
