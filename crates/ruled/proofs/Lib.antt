pub mod Tables
pub mod Scans
pub mod Least
pub mod Alike
pub mod Answering
