pub mod AsInSource
pub mod GivenQuotients
pub mod OnSphere
pub mod OppositeParallels
pub mod SphereInSource
pub mod Unchanged
