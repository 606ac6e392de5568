-- Definitions for leaf functions and proofs: no public promise cites them. Tables whose words their network gives back: what leaf functions ask of each other.
pub mod Fit
pub mod Written
