mod Cuts
mod Order
