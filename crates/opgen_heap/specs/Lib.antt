-- Definitions of opgen_heap: the bits of a heap, its sum, what each call adds, and when its bits are bits of a net's nodes.
pub mod Contents
pub mod Sum
pub mod Adding
pub mod Standing
