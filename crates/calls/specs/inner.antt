-- Definitions for leaf functions and proofs: no public promise cites them. Calls by the meaning.
pub mod Meant
