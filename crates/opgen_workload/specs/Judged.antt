-- In how many cycles of a filter's run the output is good.
use Rattle.std.specs.Prelude.{ℕ, zero, suc, ◌≡◌, ◌+◌, ◌⊎◌, List, [], ◌∷◌, take, slice_index}
use Rattle.opgen_kinds.specs.declared.sum.Sum.{Sum}
use Rattle.opgen_operator.specs.declared.operator.Operator.{Operator}
use Rattle.opgen_operator.specs.declared.operator.Operator.TheVariants.{Fir}
use Rattle.opgen_operator.specs.declared.spec.Spec.{Spec}
use Rattle.opgen_vec.specs.GoodRow.{IsGoodRow}

abbrev pub IsFilter : Operator → Type 0
IsFilter op = (sum : Sum) × (op ≡ Fir sum)

-- so many of the numbers below `most` have a property
abbrev pub Counts : (P : ℕ → Type 0) (most count : ℕ) → Type 0
Counts P zero count = count ≡ 0
Counts P (suc most) zero = (P most → ⊥) × Counts P most zero
Counts P (suc most) (suc count) = (P most × Counts P most count) ⊎ ((P most → ⊥) × Counts P most (suc count))

-- the output, the latency after a cycle, is good for the inputs up to that cycle
abbrev pub IsGoodCycle : Spec → (inputs outputs : List ℕ) (latency : ℕ) → (cycle : ℕ) → Type 0
IsGoodCycle spec inputs outputs latency cycle = IsGoodRow spec (take (cycle + 1) inputs) (slice_index outputs (cycle + latency) ∷ [])
