-- Laws of drawings: the steps of the code, then what holds of drawings and of plots read.
pub mod Lengths
pub mod Marks
pub mod Walks
pub mod Pours
pub mod ReadLaws
pub mod Arrows
pub mod Listed
pub mod DrawingTells
pub mod Totals
pub mod Longest
pub mod Leads
pub mod Rising
pub mod Risen
pub mod LinksExactly
pub mod Grown
pub mod Worked
