-- ---- patterns and the sign bit
pub mod Patterns
pub mod SignBit
pub mod SignLaws
mod AsRust
-- ---- numbers of p binary digits
pub mod Powers
mod Multiples
pub mod Representable
pub mod Sterbenz
pub mod ExactRemainder
pub mod Spacing
-- ---- rounding a number to p digits
pub mod Near
mod Kept
pub mod Rounded
pub mod RoundedExact
pub mod HalfUnit
pub mod RelativeError
pub mod Nearest
pub mod Monotone
pub mod Underflow
pub mod NoOverflow
-- ---- finite floats as numbers of units
pub mod Units
pub mod Fits
mod Place
pub mod Finite
pub mod Unique
pub mod Values
pub mod RoundFinite
pub mod IntegerDifference
pub mod SignedUnits
-- ---- the operators
mod CommonUnits
pub mod Negation
pub mod AbsoluteValue
pub mod Sum
pub mod Product
pub mod Quotient
pub mod Remainder
pub mod Comparison
pub mod UnitOrder
pub mod SizeBound
pub mod AtMost
pub mod UpTo
pub mod NotANumber
pub mod NeverNan
pub mod LessThan
pub mod Zero
