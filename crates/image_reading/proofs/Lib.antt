-- Laws of the reader.
pub mod Steps
pub mod WalkLaws
pub mod ByteLaws
pub mod HeaderLaws
pub mod ShapeLaws
pub mod FillLaws
pub mod ReadLaws
pub mod SearchLaws
pub mod ExamineLaws
