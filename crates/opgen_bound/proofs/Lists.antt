-- The least number and the shares, where one view changes or one more comes.
use Rattle.std.proofs.Common.{◌≡◌, ◌≢◌, ℕ, zero, suc, ◌+◌, ◌≤◌, min, List, [], ◌∷◌, ◌++◌, set, refl, sym, subst, ⊎_elim, arith}
use mathlib.Core.Option.{some, some-ne-none, some-injective}
use lib.ListN.{get_elem?}
use Rattle.atomic_table.proofs.Lists.{at_set, at_snoc}
use Rattle.opgen_bound.specs.declared.view.View.{View}
use Rattle.opgen_bound.specs.Views.{least_of, shares_of, Each}

pub least_start : (start : ℕ) (vs : List View) → least_of start vs ≤ start
least_start start [] = omega arith
least_start start (v ∷ vs) = omega (arith, least_start start vs)

pub least_at : (start : ℕ) (vs : List View) (i : ℕ) (v : View) → get_elem? vs i ≡ some v → least_of start vs ≤ v.published
least_at start [] i v at = absurd (some-ne-none v (sym at))
least_at start (x ∷ vs) zero v at = rw (← some-injective x v at) (omega arith)
least_at start (x ∷ vs) (suc i) v at = omega (arith, least_at start vs i v at)

pub least_set : (start : ℕ) (vs : List View) (i : ℕ) (v w : View) → get_elem? vs i ≡ some v → min v.published (least_of start (set vs i w))
    ≡ min w.published (least_of start vs)
least_set start [] i v w at = absurd (some-ne-none v (sym at))
least_set start (x ∷ vs) zero v w at = rw (← some-injective x v at) (omega arith)
least_set start (x ∷ vs) (suc i) v w at = omega (arith, least_set start vs i v w at)

pub least_snoc : (start : ℕ) (vs : List View) (w : View) → least_of start (vs ++ w ∷ []) ≡ min w.published (least_of start vs)
least_snoc start [] w = refl
least_snoc start (v ∷ vs) w = omega (arith, least_snoc start vs w)

pub set_there : (vs : List View) (i : ℕ) (v w : View) → get_elem? vs i ≡ some v → get_elem? (set vs i w) i ≡ some w
set_there [] i v w at = absurd (some-ne-none v (sym at))
set_there (x ∷ vs) zero v w at = refl
set_there (x ∷ vs) (suc i) v w at = set_there vs i v w at

-- where a view publishes more, the least number is lowered by that alone
pub least_lowered : (start : ℕ) (vs : List View) (i : ℕ) (v w : View) → get_elem? vs i ≡ some v → w.published ≤ v.published
    → least_of start (set vs i w) ≡ min w.published (least_of start vs)
least_lowered start vs i v w at less = omega (
  arith,
  less,
  least_set start vs i v w at,
  least_at start vs i v at,
  least_at start
      (set vs i w) i w (set_there vs i v w at),
)

pub shares_set : (vs : List View) (i : ℕ) (v w : View) → get_elem? vs i ≡ some v → v.share + shares_of (set vs i w) ≡ w.share + shares_of vs
shares_set [] i v w at = absurd (some-ne-none v (sym at))
shares_set (x ∷ vs) zero v w at = rw (← some-injective x v at) (omega arith)
shares_set (x ∷ vs) (suc i) v w at = omega (arith, shares_set vs i v w at)

pub shares_snoc : (vs : List View) (w : View) → shares_of (vs ++ w ∷ []) ≡ shares_of vs + w.share
shares_snoc [] w = omega arith
shares_snoc (v ∷ vs) w = omega (arith, shares_snoc vs w)

module _ (P : View → Type 0) (vs : List View) (w : View) (each : Each P vs) (this : P w) where
  pub each_set : (i : ℕ) → Each P (set vs i w)
  each_set i = λ j u at. ⊎_elim (λ (x : (j ≡ i) × (w ≡ u)). subst P x.1 this) (λ (x : (j ≢ i) × (get_elem? vs j ≡ some u)). each j u x.1)
      (at_set vs i j w u at)

  pub each_snoc : Each P (vs ++ w ∷ [])
  each_snoc = λ j u at. ⊎_elim (λ (x : get_elem? vs j ≡ some u). each j u x) (λ (x : w ≡ u). subst P x this) (at_snoc vs w u j at)
