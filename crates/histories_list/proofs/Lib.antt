-- The room of the program.
pub mod Room
