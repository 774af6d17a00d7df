pub mod Events
pub mod Commits
pub mod Entries
pub mod Clients
pub mod Tables
pub mod Answers
pub mod Marks
pub mod Backs
