pub mod Arcs
pub mod Layout
pub mod Laid
pub mod Reads
pub mod Loaded
