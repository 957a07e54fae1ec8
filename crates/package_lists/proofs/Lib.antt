mod NamesBelow
mod Endings
mod Few
mod Names
mod Arrows
mod Trims
mod Written
