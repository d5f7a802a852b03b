pub mod Accepted
pub mod Answer
pub mod Reading
pub mod Requests
pub mod Sending
pub mod Served
pub mod Serving
