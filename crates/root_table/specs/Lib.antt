pub mod Entry
pub mod Table
