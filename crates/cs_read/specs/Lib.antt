pub mod Answers
pub mod Asked
pub mod Content
pub mod Honest
pub mod Laid
pub mod Whole
