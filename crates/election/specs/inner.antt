-- Definitions for leaf functions and proofs: contracts of private functions cite them, no contract of `up`, `down` or `receive` does.
pub mod Cells
pub mod Deciding
pub mod Meant
