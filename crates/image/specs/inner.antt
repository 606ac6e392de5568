-- Definitions for leaf functions and proofs: no public promise cites them.
-- What the functions of this crate put and get, and what they ask; the meaning is in Image and Places.
pub mod Parts
