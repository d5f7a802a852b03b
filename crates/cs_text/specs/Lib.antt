pub mod Adding
pub mod Output
