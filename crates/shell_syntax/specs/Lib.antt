pub mod PrintedParts
pub mod Printed
pub mod Members
