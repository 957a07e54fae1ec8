mod Compounds
mod Lists
mod Loops
mod Places
mod Rooms
mod Simples
mod Steps
mod Words
