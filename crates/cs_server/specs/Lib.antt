pub mod Going
pub mod Laws
pub mod State
pub mod Typed
