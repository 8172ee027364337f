pub mod Solving
pub mod Meant
