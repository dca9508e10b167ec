mod Points
mod Spelled
mod Results
mod Order
mod Lower
mod Monotone
mod Shapes
pub mod Knowing
mod Growing
