pub mod Sequence
pub mod Tracking
pub mod Clients
