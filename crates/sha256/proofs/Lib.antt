pub mod Table
pub mod Cubes
pub mod Schedule
pub mod Rounds
pub mod Numbers
pub mod Blocks
pub mod Padded
pub mod Joined
