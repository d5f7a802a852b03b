pub mod Fronts
pub mod Good
pub mod Growing
pub mod Marks
