mod Bounds
mod Offsets
