mod DigitByDigit
mod IntegerRoot
mod NearWhole
mod NearestRoot
mod Packed
mod RootUnits
mod Fields
mod Scaled
mod Midpoint
mod Tests
pub mod Nearest
pub mod NearestOnly
pub mod Bounds
pub mod NotNegative
