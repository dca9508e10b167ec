pub mod Frames
pub mod Lending
pub mod Operands
pub mod PrivateLaid
