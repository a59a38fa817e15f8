-- The order of sets is total.
use Rattle.std.proofs.Common.{refl, ◌≡◌, ◌⊎◌, inl, inr, ℕ, ◌≤◌, ◌<◌, List, Option, Some, None, subst, sym, arith}
use Rattle.std.specs.declared.cmp.Ordering.{Ordering}
use Rattle.std.specs.declared.cmp.Ordering.TheVariants.{Less, Equal, Greater}
use Rattle.std.specs.Ordering.{ordering_reverse, ordering_then}
use Rattle.std.proofs.lemmas.Map.Lookups.{exact_bytes}
use Rattle.std.specs.Cmp.{IsTotalOrder, nat_cmp_total, then_total, on_total}
use Rattle.std.specs.Cmp.Lexicographic.{nat_list_cmp_total}
use Rattle.std.proofs.lemmas.Bool.Decides.{nat_tests}
use Rattle.opgen_num.proofs.Orders.{not_before}
use Rattle.opgen_graph.specs.SetCost.{set_cost}
use Rattle.opgen_search.specs.Least.{order, IsBefore}
use Rattle.opgen_search.specs.Covered.{IsNotBefore}

pub order_total : (width : ℕ) → IsTotalOrder (order width)
unfolding order
order_total width = then_total (on_total (set_cost width) nat_cmp_total) nat_list_cmp_total

pub before_trans : (width : ℕ) (F G H : List ℕ) → IsBefore width F G → IsBefore width G H → IsBefore width F H
before_trans width F G H = (order_total width).trans F G H

pub before_irrefl : (width : ℕ) (F : List ℕ) → IsBefore width F F → ⊥
before_irrefl width F h = not_before (order width F F) ((order_total width).antisymm F F) h

pub before_cheaper : (width : ℕ) (F G : List ℕ) → set_cost width F < set_cost width G → IsBefore width F G
unfolding order
before_cheaper width F G h = grind (arith, nat_tests)

pub cost_before : (width : ℕ) (F G : List ℕ) → IsBefore width F G → set_cost width F ≤ set_cost width G
unfolding order
cost_before width F G h = grind (arith, nat_tests)

-- a set that is no better than the best settles all that are that set or cost more
pub settles : (width : ℕ) (best : Option (List ℕ)) (F G : List ℕ) → IsNotBefore width F best → (F ≡ G)
    ⊎ (set_cost width F < set_cost width G) → IsNotBefore width G best
settles width None F G non same = non
settles width (Some H) F G non (inl e) = λ b. non (subst (λ x. IsBefore width x H) (sym e) b)
settles width (Some H) F G non (inr lt) = λ b. non (before_trans width F G H (before_cheaper width F G lt) b)

-- ---- sets of which neither is before the other are one set
then_equal : (r s : Ordering) → ordering_then r s ≡ Equal → s ≡ Equal
then_equal Less s e = cc
then_equal Equal s e = e
then_equal Greater s e = cc

pub equal_sets : (width : ℕ) (F G : List ℕ) → order width F G ≡ Equal → F ≡ G
unfolding order
equal_sets width F G e = exact_bytes F G (then_equal _ _ e)

neither_less : (r s : Ordering) → r ≡ ordering_reverse s → (r ≡ Less → ⊥) → (s ≡ Less → ⊥) → r ≡ Equal
neither_less Less s e n m = absurd (n refl)
neither_less Equal s e n m = refl
neither_less Greater Less e n m = absurd (m refl)
neither_less Greater Equal e n m = cc
neither_less Greater Greater e n m = cc

pub neither_before : (width : ℕ) (F G : List ℕ) → (IsBefore width F G → ⊥) → (IsBefore width G F → ⊥) → F ≡ G
neither_before width F G n m =
    equal_sets width F G (neither_less (order width F G) (order width G F) ((order_total width).antisymm F G) n m)
