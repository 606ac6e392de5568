-- Definitions for leaf functions and proofs: no public promise cites them. What the functions of this crate ask of each other.
pub mod Cells
pub mod Search
