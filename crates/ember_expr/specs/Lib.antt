pub mod Formula
pub mod Truth
pub mod Tokens
pub mod Grammar
pub mod Derivation
pub mod FirstBadToken
pub mod FirstFault
pub mod Limits
