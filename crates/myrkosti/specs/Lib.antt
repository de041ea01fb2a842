pub mod Arguments
pub mod Counted
pub mod Version
