mod Usual
mod Keeping
