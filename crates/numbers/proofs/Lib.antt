pub mod Opening
pub mod Holding
pub mod Apart
