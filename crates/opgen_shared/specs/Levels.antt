-- How high the values of adders stand.
use Rattle.std.specs.Prelude.{ℕ, ◌+◌, ◌==◌, max, min, List, [], ◌∷◌, if◌then◌else◌}
use Rattle.opgen_graph.specs.declared.ranks.Adder.{Adder}

-- an adder's value stands one above the higher of its operands, at most at 255
abbrev pub with_value : (known : ℕ → ℕ) → Adder → ℕ → ℕ
with_value known a x = if x == a.value then min 255 (max (known a.u) (known a.v) + 1) else known x

abbrev pub levels_from : (known : ℕ → ℕ) → List Adder → ℕ → ℕ
levels_from known [] = known
levels_from known (a ∷ adders) = levels_from (with_value known a) adders

-- 1 stands at level 1; a number that does not stand has level 0
unfoldable pub level : List Adder → ℕ → ℕ
level = levels_from (λ x. if x == 1 then 1 else 0)
