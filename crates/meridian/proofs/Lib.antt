mod FromEnd
pub mod AsInSource
