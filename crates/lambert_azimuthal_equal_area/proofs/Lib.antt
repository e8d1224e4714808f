pub mod AsInSource
pub mod OffTheMap
