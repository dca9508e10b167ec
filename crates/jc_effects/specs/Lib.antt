pub mod Row
pub mod Words
pub mod Objects
pub mod Effect
pub mod Method
pub mod Laws
pub mod Growth
pub mod Coded
