mod Digits
mod Encoding
pub mod Calls
