pub mod Tolerances
pub mod Newton
pub mod AmericanPolyconic
pub mod AsInSource
pub mod Opened
