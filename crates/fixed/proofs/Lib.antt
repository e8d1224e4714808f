pub mod ArcsineBound
pub mod HalfAngle
mod Differences
mod MantissaStep
mod PatternUnits
pub mod SplitExact
pub mod SplitUnique
pub mod PatternSplit
pub mod ExactProduct
