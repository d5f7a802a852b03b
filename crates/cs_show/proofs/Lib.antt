mod Standing
mod Written
