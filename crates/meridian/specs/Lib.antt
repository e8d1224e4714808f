pub mod Meridian
pub mod Opened
