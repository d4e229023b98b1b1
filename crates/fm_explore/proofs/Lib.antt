mod Paths
mod Wholes
