pub mod InputLists
pub mod InOrder
pub mod Refusals
pub mod Statuses
pub mod SolidArrays
pub mod Outcomes
