pub mod Layer
pub mod Asked
pub mod Calls
pub mod Ask
pub mod Report
pub mod Meets
pub mod Moves
