pub mod Unlisted
pub mod Refusals
