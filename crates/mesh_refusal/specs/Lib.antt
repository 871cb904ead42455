pub mod Numbers
pub mod Lines
pub mod Placings
pub mod WordLines
pub mod ExportLines
pub mod Statuses
pub mod Refusals
pub mod Said
