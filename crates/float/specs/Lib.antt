-- What f64 needs and Rattle lacks, and the operators and constants that every definition above uses.
pub mod Operators
pub mod Constants
pub mod Sign
pub mod Limits
pub mod Units
pub mod Fractions
pub mod Pi
pub mod Opened
