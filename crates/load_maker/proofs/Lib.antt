mod Accepting
mod LoadScripts
mod Numbered
mod Packages
mod PlainCommands
mod PlainForms
mod PlainWords
pub mod OnePackage
