pub mod PieceRead
pub mod Queues
