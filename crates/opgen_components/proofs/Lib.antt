pub mod Stacks
pub mod Marks
pub mod Walks
pub mod Ends
pub mod Steps
pub mod Laws
