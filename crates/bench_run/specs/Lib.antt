-- The bench listing.
pub mod Listing
pub mod Run
pub mod inner
