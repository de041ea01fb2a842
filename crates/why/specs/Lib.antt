pub mod Cause
pub mod Apart
pub mod Exact
