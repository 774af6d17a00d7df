pub mod Counting
pub mod Sending
pub mod Agreeing
pub mod Deciding
pub mod Replying
pub mod Running
pub mod Working
