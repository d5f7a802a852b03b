mod Commands
mod Numerals
mod Ranges
mod Samples
mod Settings
mod Windows
mod Wrong
