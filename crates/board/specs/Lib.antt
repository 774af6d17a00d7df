pub mod WriteSets
pub mod Standing
pub mod Shares
pub mod Delivering
pub mod Proofs
