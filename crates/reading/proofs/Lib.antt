pub mod Records
pub mod Readings
pub mod Laying
pub mod Taking
pub mod Drafting
