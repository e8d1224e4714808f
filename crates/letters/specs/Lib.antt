pub mod Ascii
pub mod Letters
pub mod Uses
pub mod Opened
