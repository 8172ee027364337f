pub mod Laying
pub mod Knowing
pub mod Lifting
pub mod Triples
pub mod Threes
pub mod Counts
pub mod Tables
pub mod Acceptance
