pub mod Seals
pub mod Sip
pub mod Mac
