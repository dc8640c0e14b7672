-- The printed lines, and what the program unpack prints.
pub mod Printed
pub mod Unpack
