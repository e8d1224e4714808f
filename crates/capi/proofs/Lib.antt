mod Fills
mod Lengths
mod Maps
