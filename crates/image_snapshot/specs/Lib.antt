-- Save, restore, and one node at a saved place.
pub mod Save
pub mod Restore
pub mod ReadNode
pub mod Count
