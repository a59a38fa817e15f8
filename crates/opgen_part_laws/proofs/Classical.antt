-- Where the goal is ⊥, a proposition may be decided, and a number that has a property may be taken as the least that has it.
use Rattle.std.proofs.Common.{◌⊎◌, inl, inr}
pub use Rattle.opgen_num.proofs.Orders.{least}

pub decided : {P : Type 0} → (P ⊎ (P → ⊥) → ⊥) → ⊥
decided k = k (inr (λ p. k (inl p)))
