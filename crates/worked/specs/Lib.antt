pub mod Requests
pub mod Sizes
pub mod Boards
pub mod Readings
pub mod Sessions
pub mod Cases
