pub mod Reports
pub mod Tracking
pub mod Auditing
