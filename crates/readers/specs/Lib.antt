pub mod Standing
pub mod Leaves
