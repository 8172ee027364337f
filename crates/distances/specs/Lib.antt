pub mod Distances
pub mod Adding
pub mod Numbers
pub mod Rows
