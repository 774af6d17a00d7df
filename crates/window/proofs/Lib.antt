pub mod ShareLaws
mod Placing
