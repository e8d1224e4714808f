pub mod Kinds
pub mod OnTheMap
pub mod OffTheMap
pub mod Opened
pub mod Cases
pub mod ClickCases
