-- That some targets have no least set of adders is impossible.
use Rattle.std.proofs.Common.{◌≡◌, inl, inr, ⊎_elim, ℕ, zero, suc, ◌+◌, ◌<◌, ◌≤◌, List, [], ◌∷◌, length, All, Contains, refl, sym, ap, ◌∙◌, subst, arith}
use Rattle.std.specs.Prelude.{ℤ}
use Rattle.std.specs.declared.cmp.Ordering.TheVariants.{Less, Equal, Greater}
use Rattle.std.specs.Ordering.{ordering_then, nat_cmp}
use Rattle.std.specs.Cmp.{nat_cmp_is}
use Rattle.std.specs.Cmp.Lexicographic.{slice_cmp}
use Rattle.std.proofs.lemmas.Bool.{cases_lt, cases_order}
use Rattle.std.proofs.lemmas.List.Elements.{All-contains}
use Rattle.opgen_num.proofs.Orders.{least}
use Rattle.opgen_csd.specs.Partials.{partials}
use Rattle.opgen_ports.specs.Ranges.{IsWithin}
use Rattle.opgen_graph.specs.SetCost.{set_cost}
use Rattle.opgen_graph.specs.SignedDigits.{IsTarget, IsPartialOf, IsDigitSet}
use Rattle.opgen_graph.specs.Targets.{IsTargetOf, AreTargetsOf}
use Rattle.opgen_graph.proofs.Members.{read}
use Rattle.opgen_graph.proofs.SignedSets.{partials_small}
use Rattle.opgen_graph.proofs.TargetLists.{has_target}
use Rattle.opgen_search.specs.Least.{order, IsBefore, IsLeast}
use Rattle.opgen_search.specs.Recipe.{IsAdderSetOf}
use Rattle.opgen_search.specs.Space.{AreTargets, InSpace}
use Rattle.opgen_search.proofs.Closing.{one_digit_set}
use Rattle.opgen_search.proofs.Order.{cost_before}
use Rattle.opgen_search.proofs.Serving.{targets_of}
use Rattle.opgen_part_laws.proofs.Classical.{decided}
use Rattle.opgen_part_laws.proofs.SomeListing.{some_list}

-- ---- the targets, and the partial sums of their digits
some_targets : (ts : List ℤ) → All (IsWithin 2047) ts → ((targets : List ℕ) → AreTargetsOf ts targets → ⊥) → ⊥
some_targets ts small found =
    some_list (IsTargetOf ts) 2048 below (λ xs up is. found xs (record { increasing = up; members = is }))
  where
    below : (x : ℕ) → IsTargetOf ts x → x < 2048
    below x (t, c, h) = let is = has_target t x h (All-contains (IsWithin 2047) ts t small c) in omega (arith, is.2)

abbrev IsPartial : List ℕ → ℕ → Type 0
IsPartial targets x = (t : ℕ) × Contains targets t × IsPartialOf t x

some_digit_set : (targets : List ℕ) → All IsTarget targets → ((set : List ℕ) → IsDigitSet targets set → ⊥) → ⊥
some_digit_set targets each found =
    some_list (IsPartial targets) 2048 below (λ xs up is. found xs (record { increasing = up; members = is }))
  where
    below : (x : ℕ) → IsPartial targets x → x < 2048
    below x (t, c, (ds, canonical, value, k)) =
        let target = All-contains IsTarget targets t each c in
        omega (arith, partials_small t ds target canonical value k.0 k.1, read (partials ds) x k)

-- ---- the least of some lists
abbrev IsLess : List ℕ → List ℕ → Type 0
IsLess xs ys = slice_cmp nat_cmp xs ys ≡ Less

none_less : (xs : List ℕ) → IsLess xs [] → ⊥
none_less [] e = let no : Equal ≡ Less = e in cc
none_less (x ∷ xs) e = let no : Greater ≡ Less = e in cc

less_tails : (x : ℕ) (xs ys : List ℕ) → IsLess (x ∷ xs) (x ∷ ys) → IsLess xs ys
less_tails x xs ys h =
    let same : nat_cmp x x ≡ Equal = sym (nat_cmp_is x x Equal refl) in
    subst (λ r. ordering_then r (slice_cmp nat_cmp xs ys) ≡ Less) same h

less_heads : (x y : ℕ) (xs ys : List ℕ) → y < x → IsLess (x ∷ xs) (y ∷ ys) → ⊥
less_heads x y xs ys lt h =
    let more : nat_cmp x y ≡ Greater = sym (nat_cmp_is x y Greater lt) in
    let both : Greater ≡ Less = subst (λ r. ordering_then r (slice_cmp nat_cmp xs ys) ≡ Less) more h in
    cc

module _ (S : List ℕ → Type 0) (none : S [] → ⊥) (x : ℕ) (before : (k : ℕ) → k < x → (ks : List ℕ) × S (k ∷ ks) → ⊥) (m : List ℕ)
    (first : (ks : List ℕ) → S (x ∷ ks) → IsLess ks m → ⊥) where
  no_less : (s : List ℕ) → S s → IsLess s (x ∷ m) → ⊥
  no_less [] is less = none is
  no_less (k ∷ ks) is less = elim (cases_order k x) [
    | inl e ↦ first ks (subst (λ n. S (n ∷ ks)) e is) (less_tails x ks m (subst (λ n. IsLess (n ∷ ks) (x ∷ m)) e less))
    | inr o ↦ elim o [
      | inl lt ↦ before k lt (ks, is)
      | inr gt ↦ less_heads k x ks m gt less
    ]
  ]

least_list : (size : ℕ) (S : List ℕ → Type 0) → ((s : List ℕ) → S s → length s ≤ size) → (s : List ℕ) → S s
    → ((m : List ℕ) → S m → ((t : List ℕ) → S t → IsLess t m → ⊥) → ⊥) → ⊥
least_list zero S within [] is found = found [] is (λ t other less. none_less t less)
least_list zero S within (x ∷ xs) is found = let few = within (x ∷ xs) is in omega (arith, few)
least_list (suc size) S within [] is found = found [] is (λ t other less. none_less t less)
least_list (suc size) S within (x ∷ xs) is found =
    decided {P = S []} (λ d. elim d [
      | inl empty ↦ found [] empty (λ t other less. none_less t less)
      | inr none ↦ least {P = λ y. (ys : List ℕ) × S (y ∷ ys)} x (xs, is) (
          λ y here before. least_list size (λ ys. S (y ∷ ys)) (λ ys h. let few = within (y ∷ ys) h in omega (arith, few)) here.0 here.1 (
          λ m h first. found (y ∷ m) h (no_less S none y before m first)))
    ])

-- ---- the least set of the space
abbrev Costs : (targets : List ℕ) (width extra n : ℕ) → List ℕ → Type 0
Costs targets width extra n s = InSpace targets extra s × (set_cost width s ≡ n)

same_cost : (width : ℕ) (F G : List ℕ) → set_cost width F ≡ set_cost width G → IsBefore width F G → IsLess F G
unfolding order
same_cost width F G e h =
    let same : nat_cmp (set_cost width F) (set_cost width G) ≡ Equal = sym (nat_cmp_is (set_cost width F) (set_cost width G) Equal e) in
    subst (λ r. ordering_then r (slice_cmp nat_cmp F G) ≡ Less) same h

space_length : (targets : List ℕ) (extra : ℕ) (digits : List ℕ) → IsDigitSet targets digits → (s : List ℕ) → InSpace targets extra s
    → length s ≤ length targets + extra + length digits
space_length targets extra digits is s (inl c) = omega (arith, c.few)
space_length targets extra digits is s (inr d) = omega (arith, ap length (one_digit_set targets s digits d is))

some_least : (targets : List ℕ) (width extra : ℕ) → AreTargets targets → ((set : List ℕ) → IsLeast targets width extra set → ⊥) → ⊥
some_least targets width extra are found =
    some_digit_set targets are.each (
    λ digits is_digits. least {P = λ n. (s : List ℕ) × Costs targets width extra n s} (set_cost width digits)
    (digits, (inr is_digits, refl)) (
    λ n here cheaper. least_list (length targets + extra + length digits) (Costs targets width extra n)
    (λ s h. space_length targets extra digits is_digits s h.0) here.0 here.1 (
    λ m is first. found m (record {
      member = is.0;
      least = λ other space earlier.
          ⊎_elim
          (λ (lt : set_cost width other < n). cheaper (set_cost width other) lt (other, (space, refl)))
          (λ (ge : n ≤ set_cost width other).
          let same : set_cost width other ≡ n = omega (arith, ge, is.1, cost_before width other m earlier) in
          first other (space, same) (same_cost width other m (same ∙ sym is.1) earlier))
          (cases_lt (set_cost width other) n);
    }))))

-- and so of some numbers
pub some_adder_set : (numbers : List ℤ) (width extra : ℕ) → All (IsWithin 2047) numbers
    → ((set : List ℕ) → IsAdderSetOf numbers width extra set → ⊥) → ⊥
some_adder_set numbers width extra small found =
    some_targets numbers small (
    λ targets are. some_least targets width extra (targets_of numbers small targets are) (
    λ set is. found set (record { targets = targets; parts = are; least = is })))
