pub mod Words
pub mod Lists
pub mod Written
pub mod Puts
