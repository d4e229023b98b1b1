mod Once
mod Handing
mod Drained
