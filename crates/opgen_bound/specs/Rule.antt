-- The invariant of the shared bound: what holds between any two steps, whichever thread makes them.
use Rattle.std.specs.Prelude.{◌≡◌, ℕ, ◌≤◌, ◌<◌, List, [], ◌∷◌}
use Rattle.atomic_table.specs.Table.{State}
use Rattle.opgen_bound.specs.declared.view.View.{View}
use Rattle.opgen_bound.specs.Views.{whole, most, spent, least_of, shares_of, Each}

-- the one word is the least of the start and of all that was published
abbrev pub WordIsLeast : ℕ → List ℕ → List View → Type 0
WordIsLeast start words vs = words ≡ least_of start vs ∷ []

-- no pass has seen less than the word
abbrev pub SeenIsAbove : ℕ → List View → Type 0
SeenIsAbove start vs = Each (λ v. least_of start vs ≤ v.seen) vs

-- the shares make the whole
abbrev pub SharesAreWhole : List View → Type 0
SharesAreWhole vs = shares_of vs ≡ whole

-- a view without a share is the spent one
abbrev pub EmptyIsSpent : List View → Type 0
EmptyIsSpent vs = Each (λ v. v.share ≡ 0 → v ≡ spent) vs

-- a pass has seen at most the start, and at most what it published itself
abbrev pub SeenIsBelow : ℕ → List View → Type 0
SeenIsBelow start vs = Each (λ v. 0 < v.share → (v.seen ≤ start) × (v.seen ≤ v.published)) vs

-- a pass knows the start
abbrev pub StartIsKnown : ℕ → List View → Type 0
StartIsKnown start vs = Each (λ v. 0 < v.share → v.start ≡ start) vs

-- the start is a number of 64 bits
abbrev pub StartFits : ℕ → Type 0
StartFits start = start ≤ most

pub record IsBound (S : Type 0) (start : ℕ) (s : State S View) : Type 0 where
  pub word : WordIsLeast start s.words s.views
  pub above : SeenIsAbove start s.views
  pub shares : SharesAreWhole s.views
  pub empty : EmptyIsSpent s.views
  pub below : SeenIsBelow start s.views
  pub known : StartIsKnown start s.views
  pub fits : StartFits start
