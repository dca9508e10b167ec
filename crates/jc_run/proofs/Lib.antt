pub mod Commands
pub mod Written
pub mod Ending
pub mod Playing
pub mod Starting
pub mod Running
mod BetweenCommands
mod ContentsKept
mod Isolating
mod NeverStuck
pub mod Conversing
pub mod Holding
pub mod Laws
pub mod Unread
