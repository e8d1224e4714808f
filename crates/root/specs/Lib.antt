pub mod Root
pub mod Plane
pub mod Nearest
pub mod Opened
pub mod Vectors
