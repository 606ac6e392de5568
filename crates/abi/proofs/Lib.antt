-- Laws of the C interface.
pub mod GivenLaws
pub mod ReportLaws
pub mod SizeLaws
pub mod RoomLaws
