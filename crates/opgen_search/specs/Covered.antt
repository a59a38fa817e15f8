-- What a piece of the search guarantees for its part, and which of two answers is kept.
use Rattle.std.specs.Prelude.{◌≡◌, ◌⊎◌, ℕ, ◌≤◌, ◌<◌, List, Vec, Option, Some, None, IfSome, IsSomeAnd}
use Rattle.std.specs.Global.{Global}
use Rattle.opgen_bound.specs.declared.view.View.{View}
use Rattle.opgen_bound.specs.Views.{most}
use Rattle.opgen_graph.specs.SetCost.{set_cost}
use Rattle.opgen_search.specs.Least.{IsBefore}

-- the best set, if there is one
abbrev pub best_of : Option (Vec ℕ Global) → Option (List ℕ)
best_of None = None
best_of (Some best) = Some best.items

-- there is a best set, and this one is not before it
abbrev pub IsNotBefore : (width : ℕ) → List ℕ → Option (List ℕ) → Type 0
IsNotBefore width set None = ⊥
IsNotBefore width set (Some best) = IsBefore width set best → ⊥

-- a set that need not be tried any more: it is not before the best, or it costs strictly more than was seen
abbrev pub IsDone : (width : ℕ) → Option (List ℕ) → (seen : ℕ) → List ℕ → Type 0
IsDone width best seen set = IsNotBefore width set best ⊎ (seen < set_cost width set)

pub record Covered (part : List ℕ → Type 0) (width : ℕ) (best : Option (List ℕ)) (pass : View) : Type 0 where
  pub member : IfSome best part
  pub all : (set : List ℕ) → part set → IsDone width best pass.seen set
  pub published : (most ≤ pass.published) ⊎ IsSomeAnd best (λ set. set_cost width set ≤ pass.published)

-- if there is an other answer, it is not before this one
abbrev pub IsNotLater : (width : ℕ) → Option (List ℕ) → (other : Option (List ℕ)) → Type 0
IsNotLater width best None = Unit {0}
IsNotLater width best (Some other) = IsNotBefore width other best

-- of two answers one that is not later than either
pub record IsLesser (width : ℕ) (one other best : Option (List ℕ)) : Type 0 where
  pub either : (best ≡ one) ⊎ (best ≡ other)
  pub first : IsNotLater width best one
  pub second : IsNotLater width best other
