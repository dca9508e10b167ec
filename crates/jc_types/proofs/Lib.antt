mod NoWorld
mod Bounded
mod Tops
mod Points
mod Operands
mod Turned
mod Joining
mod Ranging
pub mod Knowing
