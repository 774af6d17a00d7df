pub mod Lines
pub mod Replies
pub mod Shown
pub mod Kept
pub mod Serves
