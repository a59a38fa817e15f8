-- Definitions of test_commands: worked examples of a net, its design and its run, and of one operator of each shape.
pub mod TimesThree
pub mod Operators
pub mod Third
