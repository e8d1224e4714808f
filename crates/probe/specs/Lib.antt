pub mod Ellipsoids
