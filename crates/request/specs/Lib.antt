pub mod Bodies
pub mod Orders
pub mod Sizes
pub mod Marks
pub mod Plans
pub mod Requests
pub mod Drafts
