pub mod Numbers
pub mod Parts
pub mod Printed
pub mod Blocks
pub mod LawsOfNumbers
