mod Placing
mod Said
