-- Definitions for leaf functions and proofs: no public promise cites them. The same lists of calls by the meaning.
pub mod ByMeaning
pub mod Replies
