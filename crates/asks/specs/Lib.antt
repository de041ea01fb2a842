pub mod Ask
pub mod Group
pub mod Groups
