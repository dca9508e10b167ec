pub mod Heap
pub mod Store
pub mod Blocks
pub mod PrivateLaid
