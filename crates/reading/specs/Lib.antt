pub mod Bodies
pub mod Orders
pub mod Marks
pub mod Plans
pub mod Readings
pub mod Drafts
