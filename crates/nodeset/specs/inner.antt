-- Definitions for leaf functions and proofs: no public promise cites them. What the operations on sets give.
pub mod Operations
