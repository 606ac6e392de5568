-- Definitions that the contracts of `nodeset` cite.
pub mod NodeSet
pub mod inner
