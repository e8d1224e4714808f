pub mod Order
pub mod Counted
pub mod Nearest
pub mod Listed
pub mod WithoutRolls
pub mod Opened
pub mod Cases
