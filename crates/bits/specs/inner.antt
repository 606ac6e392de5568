-- Definitions for leaf functions and proofs: no public promise cites them. What the functions that put bits leave, and what they ask.
pub mod Written
