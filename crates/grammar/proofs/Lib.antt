pub mod Derivatives
pub mod Places
pub mod Same
pub mod Alike
pub mod Entries
pub mod Parts
pub mod Atoms
