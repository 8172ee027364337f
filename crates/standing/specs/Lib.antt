pub mod Entries
pub mod Standing
pub mod Following
pub mod Numbers
