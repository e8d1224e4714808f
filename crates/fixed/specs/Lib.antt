-- Document 01's other fixed functions: each is one exact sequence of operations, and every operation rounds once.
pub mod Arctangent
pub mod Logarithm
pub mod LnTwo
pub mod Powers
pub mod Opened
pub mod Vectors
