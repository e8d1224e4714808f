mod NestedSteps
pub mod NestedSize
pub mod FactorialSize
pub mod FallingSum
pub mod Alternating
pub mod Counting
mod FactorialTable
