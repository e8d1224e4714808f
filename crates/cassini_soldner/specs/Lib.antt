pub mod Constants
pub mod Arc
pub mod Series
pub mod CassiniSoldner
pub mod Opened
