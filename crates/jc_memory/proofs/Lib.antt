mod Walks
mod Ends
mod Bare
mod ExampleEnds
