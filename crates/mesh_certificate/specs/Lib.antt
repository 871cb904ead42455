pub mod Key
pub mod Certificate
