-- The odd parts above 1 of numbers stand in an increasing list.
use Rattle.std.proofs.Common.{◌≡◌, ◌≢◌, ◌⊎◌, ◌↔◌, inl, inr, ⊎_elim, ℕ, zero, suc, ◌<◌, ◌≤◌, List, [], ◌∷◌, Contains, refl, subst, sym, arith}
use Rattle.std.specs.Prelude.{ℤ, pos, negsuc, unsigned_abs}
use Rattle.std.proofs.lemmas.Bool.{cases_lt, cases_order}
use Rattle.std.proofs.lemmas.Int.{ints}
use Rattle.std.proofs.lemmas.List.Elements.{Contains-append_left, Contains-append_right, Contains-append_cases}
use Rattle.opgen_ports.specs.OddParts.{odd_part}
use Rattle.opgen_graph.specs.Targets.{HasTarget, IsTargetOf, AreTargetsOf}
use Rattle.opgen_graph.proofs.Members.{here, there, of_cons, of_nil, of_one}
use Rattle.opgen_graph.proofs.SignedSets.{Climbs, climbs_increasing}
use Rattle.opgen_graph.proofs.TargetLists.{one_constant}

-- ---- one number more in an increasing list
record Inserted (x : ℕ) (xs : List ℕ) : Type 0 where
  list : List ℕ
  up : Climbs list
  has : Contains list x
  kept : (y : ℕ) → Contains xs y → Contains list y
  no_more : (y : ℕ) → Contains list y → (x ≡ y) ⊎ Contains xs y

inserted : (x : ℕ) (xs : List ℕ) → Climbs xs → Inserted x xs
inserted x [] up = record {
  list = x ∷ [];
  up = (λ y c. absurd (of_nil y c), tt);
  has = here x [];
  kept = λ y c. absurd (of_nil y c);
  no_more = λ y c. inl (of_one x y c);
}
inserted x (z ∷ zs) up = elim (cases_order x z) [
  | inl e ↦ record {
    list = z ∷ zs;
    up = up;
    has = subst (Contains (z ∷ zs)) (sym e) (here z zs);
    kept = λ y c. c;
    no_more = λ y c. inr c;
  }
  | inr o ↦ elim o [
    | inl lt ↦ record {
      list = x ∷ z ∷ zs;
      up = (λ y c. ⊎_elim (λ (e : z ≡ y). omega (arith, e, lt)) (λ (k : Contains zs y). omega (arith, lt, up.0 y k)) (of_cons z y zs c), up);
      has = here x (z ∷ zs);
      kept = λ y c. there x y (z ∷ zs) c;
      no_more = λ y c. of_cons x y (z ∷ zs) c;
    }
    | inr gt ↦ after gt (inserted x zs up.1)
  ]
]
  where
    after : z < x → Inserted x zs → Inserted x (z ∷ zs)
    after gt more = record {
      list = z ∷ more.list;
      up = (λ y c. ⊎_elim (λ (e : x ≡ y). omega (arith, e, gt)) (λ (k : Contains zs y). up.0 y k) (more.no_more y c), more.up);
      has = there z x more.list more.has;
      kept = λ y c. ⊎_elim (λ (e : z ≡ y). subst (Contains (z ∷ more.list)) e (here z more.list))
          (λ (k : Contains zs y). there z y more.list (more.kept y k)) (of_cons z y zs c);
      no_more = λ y c. ⊎_elim (λ (e : z ≡ y). inr (subst (Contains (z ∷ zs)) e (here z zs)))
          (λ (k : Contains more.list y). ⊎_elim (λ (e : x ≡ y). inl e) (λ (m : Contains zs y). inr (there z y zs m)) (more.no_more y k))
          (of_cons z y more.list c);
    }

-- ---- the parts
abbrev part : ℤ → ℕ
part t = odd_part (unsigned_abs t)

above : (t : ℤ) → t ≢ pos 0 → HasTarget t (part t) ⊎ ((x : ℕ) → HasTarget t x → ⊥)
above t some =
    ⊎_elim (λ (lt : 1 < part t). inl (record { some = some; part = refl; above = lt }))
    (λ (le : part t ≤ 1). inr (λ x h. omega (arith, le, h.part, h.above))) (cases_lt 1 (part t))

has_part : (t : ℤ) → HasTarget t (part t) ⊎ ((x : ℕ) → HasTarget t x → ⊥)
has_part (pos zero) = inr (λ x h. h.some refl)
has_part (pos (suc n)) = above (pos (suc n)) (λ e. omega (arith, ints, e))
has_part (negsuc n) = above (negsuc n) (λ e. omega (arith, ints, e))

record Parts (numbers : List ℤ) : Type 0 where
  list : List ℕ
  up : Climbs list
  members : (x : ℕ) → Contains list x ↔ IsTargetOf numbers x

first_of : (t : ℤ) (ts : List ℤ) (x : ℕ) → HasTarget t x → IsTargetOf (t ∷ ts) x
first_of t ts x h = (t, Contains-append_left (t ∷ []) ts t (0, omega arith, refl), h)

later_of : (t : ℤ) (ts : List ℤ) (x : ℕ) → IsTargetOf ts x → IsTargetOf (t ∷ ts) x
later_of t ts x (u, c, h) = (u, Contains-append_right (t ∷ []) ts u c, h)

either_of : (t : ℤ) (ts : List ℤ) (x : ℕ) → IsTargetOf (t ∷ ts) x → HasTarget t x ⊎ IsTargetOf ts x
either_of t ts x (u, c, h) =
    ⊎_elim (λ (k : Contains (t ∷ []) u). inl (subst (λ z. HasTarget z x) (sym (one_constant t u k)) h)) (λ (k : Contains ts u). inr (u, k, h))
    (Contains-append_cases (t ∷ []) ts u c)

one_more : (t : ℤ) (ts : List ℤ) → Parts ts → HasTarget t (part t) ⊎ ((x : ℕ) → HasTarget t x → ⊥) → Parts (t ∷ ts)
one_more t ts rest (inl has) =
    let more = inserted (part t) rest.list rest.up in
    record {
      list = more.list;
      up = more.up;
      members = λ x. (
        λ c. ⊎_elim (λ (e : part t ≡ x). first_of t ts x (subst (HasTarget t) e has))
            (λ (k : Contains rest.list x). later_of t ts x ((rest.members x).0 k)) (more.no_more x c),
        λ o. ⊎_elim (λ (h : HasTarget t x). subst (Contains more.list) h.part more.has)
            (λ (m : IsTargetOf ts x). more.kept x ((rest.members x).1 m)) (either_of t ts x o),
      );
    }
one_more t ts rest (inr none) = record {
  list = rest.list;
  up = rest.up;
  members = λ x. (
    λ c. later_of t ts x ((rest.members x).0 c),
    λ o. ⊎_elim (λ (h : HasTarget t x). absurd (none x h)) (λ (m : IsTargetOf ts x). (rest.members x).1 m) (either_of t ts x o),
  );
}

parts_of : (numbers : List ℤ) → Parts numbers
parts_of [] = record {
  list = [];
  up = tt;
  members = λ x. (λ c. absurd (of_nil x c), λ o. let (t, c, h) = o in absurd (omega (arith, c.1)));
}
parts_of (t ∷ ts) = one_more t ts (parts_of ts) (has_part t)

pub some_parts : (numbers : List ℤ) → (parts : List ℕ) × AreTargetsOf numbers parts
some_parts numbers =
    let all = parts_of numbers in
    (all.list, record { increasing = climbs_increasing all.list all.up; members = all.members })
