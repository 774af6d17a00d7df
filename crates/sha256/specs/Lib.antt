pub mod Functions
pub mod Constants
pub mod Block
pub mod Padding
pub mod Hash
pub mod Laws
