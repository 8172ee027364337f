pub mod Grammar
pub mod Place
pub mod Pieces
pub mod States
pub mod Roles
pub mod Automaton
