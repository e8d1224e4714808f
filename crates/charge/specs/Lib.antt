pub mod Least
pub mod Kilometres
pub mod Shares
pub mod Charge
pub mod Fair
pub mod Opened
pub mod Cases
