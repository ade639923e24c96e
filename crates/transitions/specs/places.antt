pub mod RowPlaces
