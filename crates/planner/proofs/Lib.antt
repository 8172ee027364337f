pub mod Refusals
pub mod Choosing
pub mod Answering
pub mod Turning
pub mod Calling
pub mod Demands
