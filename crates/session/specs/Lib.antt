pub mod Replies
pub mod Answers
pub mod Hearing
pub mod Standing
pub mod Runs
