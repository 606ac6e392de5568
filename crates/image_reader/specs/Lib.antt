-- A reader: fields, and a node's record.
pub mod Fields
pub mod Record
