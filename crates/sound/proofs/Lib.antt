-- Laws of the looks; crates above cite them.
pub mod LookLaws
