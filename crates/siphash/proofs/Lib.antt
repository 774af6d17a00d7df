pub mod Little
pub mod Words
