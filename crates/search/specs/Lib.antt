pub mod Standing
pub mod Places
pub mod Listing
pub mod Depths
pub mod Narrowing
pub mod Steps
