pub mod Words
pub mod Reading
pub mod Said
pub mod Script
pub mod Notes
pub mod Text
