pub mod PlaceList
pub mod Keeping
