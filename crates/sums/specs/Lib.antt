-- Nested sums, and document 01's coefficients for them.
pub mod NestedSum
pub mod Counting
pub mod Factorials
pub mod InverseOdds
pub mod Opened
