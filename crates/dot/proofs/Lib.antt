-- Laws of a graph's text, and of what is read in a text.
pub mod Pieces
pub mod Numbers
pub mod Starts
pub mod Reading
pub mod Nodes
pub mod Edges
pub mod Walking
pub mod Tells
pub mod Exactly
pub mod Forms
pub mod AheadLaws
