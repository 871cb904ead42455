pub mod IndexLists
pub mod Laws
pub mod KnownInBox
