mod Few
mod HeaderLemmas
mod Halves
mod Signatures
mod Spelling
