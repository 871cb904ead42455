pub mod TextsOfLeaves
pub mod CanonicalWords
pub mod Replies
pub mod CallsServe
