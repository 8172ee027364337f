pub mod Sets
pub mod Forced
pub mod Lit
pub mod Panels
pub mod Claims
