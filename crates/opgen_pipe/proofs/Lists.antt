-- Items of lists by place.
use Rattle.std.proofs.Common.{◌≡◌, ℕ, zero, suc, ◌+◌, ◌<◌, Bool, true, false, List, [], ◌∷◌, ◌++◌, length, map, get_or, Some, refl, sym, ap, ◌∙◌, subst, arith, inl, inr}
use Rattle.std.specs.Prelude.{◌⊎◌, Contains, cond, filter, slice_get}
use Rattle.std.specs.List.{range_with_len}
use Rattle.std.proofs.lemmas.Bool.{cases_Bool}
use Rattle.std.proofs.lemmas.List.Elements.{All-contains, All-filter, All-contains_itself}
pub use Rattle.opgen_schedule.proofs.Graphs.{length-each, get-each}

pub get-left : {X : Type 0} (xs ys : List X) (m : ℕ) → m < length xs → slice_get (xs ++ ys) m ≡ slice_get xs m
get-left [] ys m h = absurd (omega (arith, h))
get-left (x ∷ xs) ys zero h = refl
get-left (x ∷ xs) ys (suc m) h = get-left xs ys m (omega (arith, h))

pub get-right : {X : Type 0} (xs ys : List X) (m k : ℕ) → m ≡ length xs + k → slice_get (xs ++ ys) m ≡ slice_get ys k
get-right [] ys m k e = ap (slice_get ys) (e ∙ omega arith)
get-right (x ∷ xs) ys zero k e = absurd (omega (arith, e))
get-right (x ∷ xs) ys (suc m) k e = get-right xs ys m k (omega (arith, e))

pub get-append : {X : Type 0} (xs ys : List X) (i : ℕ) (x : X) → slice_get (xs ++ ys) i ≡ Some x
    → (slice_get xs i ≡ Some x) ⊎ ((j : ℕ) × (i ≡ length xs + j) × (slice_get ys j ≡ Some x))
get-append [] ys i x h = inr (i, omega arith, h)
get-append (y ∷ xs) ys zero x h = inl h
get-append (y ∷ xs) ys (suc i) x h = elim (get-append xs ys i x h) [ inl a ↦ inl a | inr b ↦ inr (b.0, omega (arith, b.1), b.2) ]

pub get-map : {X Y : Type 0} (f : X → Y) (xs : List X) (i : ℕ) (y : Y) → slice_get (map f xs) i ≡ Some y → (x : X)
    × (slice_get xs i ≡ Some x) × (f x ≡ y)
get-map f [] i y h = absurd (cc)
get-map f (x ∷ xs) zero y h = (x, refl, let is : f x ≡ y = cc in is)
get-map f (x ∷ xs) (suc i) y h = get-map f xs i y h

pub get-mapped : {X Y : Type 0} (f : X → Y) (xs : List X) (i : ℕ) (x : X) → slice_get xs i ≡ Some x → slice_get (map f xs) i ≡ Some (f x)
get-mapped f [] i x h = absurd (cc)
get-mapped f (y ∷ xs) zero x h = let is : y ≡ x = cc in ap (λ z. Some (f z)) is
get-mapped f (y ∷ xs) (suc i) x h = get-mapped f xs i x h

pub get-range : (a n k : ℕ) → k < n → slice_get (range_with_len a n) k ≡ Some (a + k)
get-range a zero k h = absurd (omega (arith, h))
get-range a (suc n) zero h = let e : a ≡ a + 0 = omega arith in ap Some e
get-range a (suc n) (suc k) h = let e : a + 1 + k ≡ a + suc k = omega arith in get-range (a + 1) n k (omega (arith, h)) ∙ ap Some e

-- what a filter keeps
module _ {X : Type 0} (p : X → Bool) where
  filter-kept : (x : X) (xs : List X) → p x ≡ true → filter p (x ∷ xs) ≡ x ∷ filter p xs
  filter-kept x xs h = ap (λ b. cond b (x ∷ filter p xs) (filter p xs)) h

  filter-dropped : (x : X) (xs : List X) → p x ≡ false → filter p (x ∷ xs) ≡ filter p xs
  filter-dropped x xs h = ap (λ b. cond b (x ∷ filter p xs) (filter p xs)) h

  kept_at : (xs : List X) (k : ℕ) (x : X) → k < length xs → get_or xs k x ≡ x → p x ≡ true → Contains (filter p xs) x
  kept_at [] k x l e h = absurd (omega (arith, l))
  kept_at (y ∷ xs) zero x l e h =
      let there : Contains (y ∷ filter p xs) x = (0, omega arith, e) in
      subst (λ ys. Contains ys x) (sym (filter-kept y xs (ap p e ∙ h))) there
  kept_at (y ∷ xs) (suc k) x l e h =
      let rest = kept_at xs k x (omega (arith, l)) e h in
      elim (cases_Bool (p y)) [
        | inl t ↦
            let there : Contains (y ∷ filter p xs) x = (suc rest.0, omega (arith, rest.1), rest.2) in
            subst (λ ys. Contains ys x) (sym (filter-kept y xs t)) there
        | inr f ↦ subst (λ ys. Contains ys x) (sym (filter-dropped y xs f)) rest
      ]

  pub Contains-filter : (xs : List X) (x : X) → p x ≡ true → Contains xs x → Contains (filter p xs) x
  Contains-filter xs x h c = kept_at xs c.0 x c.1 c.2 h

  pub from_filter : (xs : List X) (x : X) → Contains (filter p xs) x → Contains xs x
  from_filter xs x c = All-contains (Contains xs) (filter p xs) x (All-filter p (Contains xs) xs (All-contains_itself xs)) c
