mod AdditionCommutes
pub mod AsInSource
