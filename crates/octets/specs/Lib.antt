pub mod Octets
pub mod Lists
pub mod Sets
pub mod Rows
