-- Definitions of opgen_nonrestoring: the recurrence on numbers, the nodes of a division, and what the nodes have to do with the
-- recurrence.
pub mod Recurrence
pub mod Recipe
pub mod Steps
