mod Counted
mod Said
