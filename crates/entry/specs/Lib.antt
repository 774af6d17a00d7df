pub mod Bodies
pub mod Written
