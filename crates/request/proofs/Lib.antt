pub mod Records
pub mod Laying
pub mod Requests
pub mod Taking
pub mod Drafting
pub mod Sizing
