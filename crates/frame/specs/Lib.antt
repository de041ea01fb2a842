pub mod State
pub mod Block
pub mod Class
pub mod Wire
