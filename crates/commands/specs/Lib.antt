-- Commands of a bench input.
pub mod Commands
pub mod inner
