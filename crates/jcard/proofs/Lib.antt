mod Ends
mod Runs
