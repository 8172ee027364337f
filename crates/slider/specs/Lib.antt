-- The meaning: `Readings` and `Slider`. `Steps` serves the private functions only.
pub mod Readings
pub mod Slider
pub mod Steps
