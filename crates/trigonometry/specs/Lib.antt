-- Document 01's sine, cosine and tangent, and what brings an angle into one turn.
pub mod Trigonometry
pub mod Turns
pub mod Opened
pub mod Vectors
