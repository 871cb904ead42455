pub mod Header
pub mod HeaderViews
pub mod Scalars
pub mod Cursors
pub mod CursorViews
pub mod Rows
pub mod RowViews
pub mod ReadPly
