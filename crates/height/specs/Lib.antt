-- Definitions that the contracts of `height` cite.
pub mod Clock
pub mod Comparison
pub mod Height
pub mod Order
pub mod Words
pub mod inner
