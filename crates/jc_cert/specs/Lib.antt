pub mod Cert
pub mod Writing
pub mod PrivateReading
