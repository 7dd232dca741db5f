pub mod ColumnLaws
pub mod EntryPlaces
pub mod Pieces
pub mod RowPlaces
pub mod Shaped
