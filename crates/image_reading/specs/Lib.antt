-- The reader's checks, and what it reads.
pub mod Header
pub mod Walk
pub mod Examine
pub mod inner
