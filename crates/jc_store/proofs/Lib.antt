mod Laid
mod Making
mod Moving
mod Held
mod Blanking
mod Rows
mod Blocks
mod There
