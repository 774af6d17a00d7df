pub mod Meaning
pub mod Fnv
pub mod Sha
