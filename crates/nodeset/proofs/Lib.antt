-- Laws of sets of nodes and of walks over them, for the functions of `nodeset` and the crates above.
pub mod Members
pub mod Walk
