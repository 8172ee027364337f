pub mod Tests
pub mod Rounds
