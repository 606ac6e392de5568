-- Definitions for leaf functions and proofs: no public promise cites them. What pouring bytes leaves.
pub mod Poured
