pub mod Tests
pub mod Order
pub mod Differences
pub mod Lists
pub mod Integers
