-- Definitions for leaf functions and proofs: no public promise cites them. What the functions that take a line apart answer.
pub mod Leaves
