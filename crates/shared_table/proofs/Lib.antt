mod ChildPlaces
mod Digits
mod Opened
mod Rows
