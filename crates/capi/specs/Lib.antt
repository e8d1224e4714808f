pub mod Answers
pub mod Building
pub mod Columns
pub mod OnTheMap
pub mod Second
