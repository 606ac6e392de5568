-- Definitions for leaf functions and proofs: no public promise cites them. The list as the code makes it.
pub mod Walk
