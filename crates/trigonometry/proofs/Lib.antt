mod OwnRemainder
mod FarRemainder
mod Quarters
pub mod Bounded
pub mod Odd
