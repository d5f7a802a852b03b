pub mod Captured
pub mod Table
pub mod Types
pub mod Wanted
