-- Text in lent bytes.
pub mod Text
pub mod inner
