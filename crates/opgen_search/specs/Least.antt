-- The order of sets of adders, by cost and then as lists, and the least set.
use Rattle.std.specs.Prelude.{◌≡◌, ℕ, List}
use Rattle.std.specs.declared.cmp.Ordering.{Ordering}
use Rattle.std.specs.declared.cmp.Ordering.TheVariants.{Less}
use Rattle.std.specs.Ordering.{ordering_then, nat_cmp}
use Rattle.std.specs.Cmp.Lexicographic.{slice_cmp}
use Rattle.opgen_graph.specs.SetCost.{set_cost}
use Rattle.opgen_search.specs.Space.{InSpace}

-- by cost, and at equal cost by the increasing lists in lexicographic order
unfoldable pub order : (width : ℕ) → List ℕ → List ℕ → Ordering
order width set other = ordering_then (nat_cmp (set_cost width set) (set_cost width other)) (slice_cmp nat_cmp set other)

abbrev pub IsBefore : (width : ℕ) → List ℕ → List ℕ → Type 0
IsBefore width set other = order width set other ≡ Less

-- the set of the space with no other before it
pub record IsLeast (targets : List ℕ) (width extra : ℕ) (set : List ℕ) : Type 0 where
  pub member : InSpace targets extra set
  pub least : (other : List ℕ) → InSpace targets extra other → IsBefore width other set → ⊥

-- there is one least set
abbrev pub OneLeast : Type 0
OneLeast = (targets : List ℕ) (width extra : ℕ) (set other : List ℕ) → IsLeast targets width extra set
    → IsLeast targets width extra other → set ≡ other
