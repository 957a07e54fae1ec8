mod Acts
mod Behind
mod Joining
mod Layers
mod Unset
