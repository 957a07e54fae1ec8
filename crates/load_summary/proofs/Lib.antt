mod Counting
mod Told
