pub mod Compare
