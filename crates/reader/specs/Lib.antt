pub mod Checks
pub mod Accepted
pub mod Example
pub mod Entries
pub mod Tags
pub mod Items
