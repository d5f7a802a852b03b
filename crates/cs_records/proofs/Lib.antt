pub mod Cutting
pub mod Groups
pub mod Runs
pub mod SameColumns
pub mod Seen
pub mod Sound
