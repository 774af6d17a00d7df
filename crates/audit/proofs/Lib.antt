pub mod Numbering
pub mod Tracking
pub mod Judging
pub mod Reporting
