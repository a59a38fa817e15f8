-- Inputs by their names, and empty arrays.
use Rattle.std.proofs.Common.{◌≡◌, ℕ, ◌+◌, ◌==◌, Bool, true, false, cond, List, [], ◌∷◌, length, Some, refl, ap, sym, ◌∙◌, arith}
use borrow.Author.Tests.{eqb-true}
use Rattle.std.specs.List.{position, position_from}
use Rattle.std.proofs.lemmas.Iterator.Adapters.{position_from-zero}
use Rattle.toml.specs.declared.value.Value.{Value}
use Rattle.toml.specs.Data.{Data}
use Rattle.toml.specs.View.{view, items_view}
use Rattle.opgen_document.specs.Document.{list_of, is_empty}

pub empty_view : (vs : List Value) → (length vs == 0) ≡ is_empty (items_view vs)
empty_view [] = refl
empty_view (v ∷ vs) = go (length (v ∷ vs) == 0) refl
  where
    go : (b : Bool) → (length (v ∷ vs) == 0) ≡ b → b ≡ false
    go false e = refl
    go true e = let none = eqb-true (length (v ∷ vs)) 0 e in absurd (omega (arith, none))

from_view : (p : Data → Bool) (n : ℕ) (vs : List Value) → position_from (λ v. p (view v)) n vs ≡ position_from p n (list_of (items_view vs))
from_view p n [] = refl
from_view p n (v ∷ vs) = ap (λ rest. cond (p (view v)) (Some n) rest) (from_view p (n + 1) vs)

pub position_view : (p : Data → Bool) (vs : List Value) → position (λ v. p (view v)) vs ≡ position p (list_of (items_view vs))
position_view p vs =
    position_from-zero (λ v. p (view v)) vs ∙ from_view p 0 vs ∙ sym (position_from-zero p (list_of (items_view vs)))
