pub mod Printing
pub mod Meant
