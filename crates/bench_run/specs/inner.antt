-- Definitions for leaf functions and proofs: no public promise cites them. The listing by lent tables, as the code makes it.
pub mod OnTables
