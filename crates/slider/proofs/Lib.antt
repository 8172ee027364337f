-- The claims besides the contracts stand in `Claims`, `Numbers`, `Refusals`, `Waits` and `Worked`; the other files lead to them and to the functions' proofs.
pub mod Whole
pub mod Floor
pub mod Ceiling
pub mod Exactly
pub mod Readings
pub mod Bits
pub mod Grid
pub mod Bounds
pub mod Spans
pub mod Quotient
pub mod Rates
pub mod Claims
pub mod Numbers
pub mod Refusals
pub mod Waits
pub mod Worked
