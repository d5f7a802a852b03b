pub mod Layout
pub mod Part
pub mod Place
pub mod Held
