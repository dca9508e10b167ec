mod Repeats
mod Fields
mod Types
mod Laws
mod Each
