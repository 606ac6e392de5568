-- Definitions for leaf functions and proofs: no public promise cites them. Looks at a network in lent tables.
pub mod Looks
