pub mod LambertAzimuthalEqualArea
pub mod Forward
pub mod Inverse
pub mod OffTheMap
pub mod AsInSource
pub mod Opened
