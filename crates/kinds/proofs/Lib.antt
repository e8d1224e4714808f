pub mod Unused
pub mod AreaOfUse
pub mod OffTheMap
