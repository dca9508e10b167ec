mod Evaluating
mod Lines
mod Reading
mod Jobs
mod Sources
