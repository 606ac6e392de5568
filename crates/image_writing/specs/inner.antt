-- Definitions for leaf functions and proofs: no public promise cites them. The bits of both tables, as the loops write them.
pub mod Words
