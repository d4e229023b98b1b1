mod Escaping
mod Inerts
