pub mod Chosen
pub mod Numbers
pub mod Options
pub mod Place
pub mod Ranges
pub mod Words
