pub mod Negated
pub mod AsInSource
