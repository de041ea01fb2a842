pub mod Calls
pub mod Report
pub mod Meets
pub mod Moves
