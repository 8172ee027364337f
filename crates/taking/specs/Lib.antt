pub mod Spans
pub mod Tables
pub mod Taking
