-- The text of a graph in DOT, and what a text says.
pub mod Graph
pub mod Sketch
pub mod inner
