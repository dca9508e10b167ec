pub mod Streams
pub mod PrivateStreams
