pub mod Audit
pub mod Index
