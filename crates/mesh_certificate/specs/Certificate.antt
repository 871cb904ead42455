pub mod Segments
pub mod Chains
pub mod Closed
pub mod Keys
pub mod Facing
pub mod OnLines
pub mod Certificate
