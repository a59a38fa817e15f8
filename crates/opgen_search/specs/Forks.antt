-- What a fork of the search receives, and what it returns.
use Rattle.std.specs.Prelude.{◌≡◌, ℕ, ◌-◌, ◌^◌, ◌≤◌, ◌<◌, List, length, IfSome, IfOk}
use Rattle.opgen_bound.specs.declared.bound.Bound.{Bound}
use Rattle.opgen_bound.specs.declared.bound.Pass.{Pass}
use Rattle.opgen_bound.specs.Views.{most}
use Rattle.opgen_bound.specs.Passes.{view, IsPassOf}
use Rattle.opgen_search.specs.declared.hunt.Search.{Search}
use Rattle.opgen_search.specs.declared.piece.Found.{Found}
use Rattle.opgen_search.specs.Parts.{Parts}
use Rattle.opgen_search.specs.Covered.{best_of, Covered}
use Rattle.opgen_search.specs.Hunts.{IsSearch}

abbrev pub parts_of : Search → (low high : ℕ) → List ℕ → Type 0
parts_of search low high = Parts search.targets.items search.extra search.pieces low high

-- the pieces from `low` up to `high`, under a pass with a share for each that published nothing yet
pub record IsAsked (bound : Bound) (search : Search) (pass : Pass) (low high : ℕ) : Type 0 where
  pub asked : IsSearch search
  pub range : (low < high) × (high ≤ search.pieces)
  pub same : IsPassOf bound pass
  pub fresh : most ≤ (view pass).published
  pub share : high - low ≤ (view pass).share

-- their parts are covered, or memory ran out
abbrev pub IsAnswered : Search → (low high : ℕ) → Found → Type 0
IsAnswered search low high found =
    IfOk found.best (λ best. Covered (parts_of search low high) search.width (best_of best) (view found.pass))

-- where two answer for neighbouring ranges of pieces, the third answers for both ranges together
abbrev pub AnswersBoth : Search → (left right both : Found) → Type 0
AnswersBoth search left right both =
    (low middle high : ℕ) → low ≤ middle → middle ≤ high → IsAnswered search low middle left → IsAnswered search middle high right
    → IsAnswered search low high both

abbrev pub IsShort : Found → Type 0
IsShort found = IfOk found.best (λ best. IfSome (best_of best) (λ set. length set < 2 ^ 31))

-- what these pieces found; the whole share comes back, also where memory ran out
pub record IsFound (bound : Bound) (search : Search) (pass : Pass) (low high : ℕ) (found : Found) : Type 0 where
  pub same : IsPassOf bound found.pass
  pub share : (view found.pass).share ≡ (view pass).share
  pub start : (view found.pass).start ≡ (view pass).start
  pub count : IsShort found
  pub answered : IsAnswered search low high found
