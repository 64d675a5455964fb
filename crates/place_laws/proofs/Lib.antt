pub mod Between
pub mod StatePlaces
pub mod NodePlaces
