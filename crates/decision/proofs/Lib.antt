-- Laws for the proofs of `decision`'s functions.
pub mod Depths
pub mod Descent
pub mod SmallestDelta
