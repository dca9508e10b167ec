mod Stepping
mod Values
mod Running
