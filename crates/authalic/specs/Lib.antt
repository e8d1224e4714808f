pub mod Authalic
pub mod Opened
