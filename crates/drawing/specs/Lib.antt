-- Plot drawings: what writing and reading answer and leave.
pub mod Drawing
pub mod Draw
pub mod Links
pub mod Read
pub mod inner
