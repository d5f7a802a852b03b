pub mod StepLine
pub mod Writable
