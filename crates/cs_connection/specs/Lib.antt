pub mod Conn
pub mod Given
pub mod Memory
pub mod Accepting
