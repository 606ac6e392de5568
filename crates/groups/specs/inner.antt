-- Definitions for leaf functions and proofs: no public promise cites them.
pub mod Words
