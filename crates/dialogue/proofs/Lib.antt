pub mod Spelling
pub mod Buffers
pub mod Signs
pub mod Patterns
pub mod Listing
pub mod Placing
pub mod Decimals
pub mod Puts
