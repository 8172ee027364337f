pub mod Paths
pub mod Heights
pub mod Leading
pub mod Best
pub mod Pairs
pub mod Narrowing
