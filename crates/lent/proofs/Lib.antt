pub mod Writing
pub mod Signed
