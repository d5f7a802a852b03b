pub mod Rows
pub mod Crashes
pub mod Causes
pub mod State
pub mod Reading
pub mod Window
