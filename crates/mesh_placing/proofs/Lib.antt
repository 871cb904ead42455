pub mod CoarsePowers
pub mod TextParts
pub mod LastPlaces
pub mod FilePlacings
