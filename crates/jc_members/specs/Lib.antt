pub mod SmallCard
pub mod Results
