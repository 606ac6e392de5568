-- Definitions for leaf functions and proofs: no public promise cites them. The comparison part by part, and a height stored as words.
pub mod Parts
pub mod Stored
