pub mod GuamProjection
pub mod Opened
