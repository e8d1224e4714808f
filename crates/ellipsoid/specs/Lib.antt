pub mod Ellipsoid
pub mod AsInSource
pub mod Results
pub mod Names
pub mod Units
pub mod Opened
