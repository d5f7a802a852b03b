pub mod Columns
pub mod Group
pub mod Told
pub mod Weight
