pub mod Selection
pub mod Ready
pub mod Settled
pub mod Displaced
pub mod Groups
