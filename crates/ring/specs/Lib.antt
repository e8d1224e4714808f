pub mod Edge
pub mod Ring
pub mod Tally
pub mod Stored
pub mod Results
pub mod InOrder
pub mod Opened
pub mod Cases
