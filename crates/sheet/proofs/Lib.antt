mod Digits
mod Forms
mod Numbers
pub mod Lines
mod Parts
mod Starts
pub mod RoundTrip
pub mod Stores
