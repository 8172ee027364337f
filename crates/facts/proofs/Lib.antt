pub mod Rounding
pub mod Tables
pub mod Settling
pub mod Deciding
pub mod Joining
pub mod Adding
pub mod Claims
