-- Definitions for leaf functions and proofs: no public promise cites them. What the test of a pair finds, and what is known of a cell
-- that was read.
pub mod Findings
pub mod ReadCell
