mod Bodies
mod Causes
mod Many
mod Pieces
mod Requests
mod Rightly
mod Standing
