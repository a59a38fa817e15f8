-- The least further member of a set, and the pieces that sets go to.
use Rattle.std.proofs.Common.{◌≡◌, inl, inr, ⊎_elim, ℕ, ◌%◌, ◌≤◌, ◌<◌, min, List, [], ◌∷◌, Option, Some, None, Contains, IsPermutation, refl, subst, arith}
use Rattle.std.proofs.lemmas.Bool.{cases_lt}
use Rattle.std.proofs.lemmas.List.Sorted.{IsPermutation-sym, Contains-permutation}
use Rattle.opgen_graph.proofs.Members.{here, there, of_cons, of_nil, is_in}
use Rattle.opgen_search.specs.Space.{InSpace}
use Rattle.opgen_search.specs.Parts.{number, IsLeastFurther, IsOfPiece, Parts}
use Rattle.opgen_search.specs.Hunts.{IsLeastOf, least_with, IsTaken}

one_least : (targets set : List ℕ) (m k : ℕ) → IsLeastFurther targets set m → IsLeastFurther targets set k → m ≡ k
one_least targets set m k a b = let low = a.least k b.member b.further in let high = b.least m a.member a.further in
    omega (arith, low, high)

pub least_moved : (targets xs ys : List ℕ) (least : Option ℕ) → IsPermutation xs ys → IsLeastOf targets xs least
    → IsLeastOf targets ys least
least_moved targets xs ys None p h = λ x c. h x (Contains-permutation ys xs x (IsPermutation-sym xs ys p) c)
least_moved targets xs ys (Some m) p h =
    record {
      member = Contains-permutation xs ys m p h.member;
      further = h.further;
      least = λ x c. h.least x (Contains-permutation ys xs x (IsPermutation-sym xs ys p) c);
    }

-- ---- one more member
pub least_more : (targets set : List ℕ) (least : Option ℕ) (f : ℕ) → (Contains targets f → ⊥) → IsLeastOf targets set least
    → IsLeastOf targets (f ∷ set) (Some (least_with least f))
least_more targets set None f out h = record {
  member = here f set;
  further = out;
  least = λ x c non. ⊎_elim (λ (e : f ≡ x). omega (arith, e)) (λ (k : Contains set x). absurd (non (h x k))) (of_cons f x set c);
}
least_more targets set (Some m) f out h =
    ⊎_elim
    (λ (lt : f < m).
    let e : f ≡ min m f = omega (arith, lt) in
    subst (IsLeastFurther targets (f ∷ set)) e (record {
      member = here f set;
      further = out;
      least = λ x c non. ⊎_elim (λ (s : f ≡ x). omega (arith, s)) (λ (k : Contains set x). let low = h.least x k non in
          omega (arith, low, lt)) (of_cons f x set c);
    }))
    (λ (le : m ≤ f).
    let e : m ≡ min m f = omega (arith, le) in
    subst (IsLeastFurther targets (f ∷ set)) e (record {
      member = there f m set h.member;
      further = h.further;
      least = λ x c non. ⊎_elim (λ (s : f ≡ x). omega (arith, s, le)) (λ (k : Contains set x). h.least x k non) (of_cons f x set c);
    }))
    (cases_lt f m)

least_skip : (targets set : List ℕ) (least : Option ℕ) (t : ℕ) → Contains targets t → IsLeastOf targets set least
    → IsLeastOf targets (t ∷ set) least
least_skip targets set None t c h = λ x i. ⊎_elim (λ (e : t ≡ x). subst (Contains targets) e c) (λ (k : Contains set x). h x k)
    (of_cons t x set i)
least_skip targets set (Some m) t c h = record {
  member = there t m set h.member;
  further = h.further;
  least = λ x i non. ⊎_elim (λ (e : t ≡ x). absurd (non (subst (Contains targets) e c))) (λ (k : Contains set x). h.least x k non)
      (of_cons t x set i);
}

-- ---- the piece that a set goes to
pub taken_of : (targets : List ℕ) (pieces piece : ℕ) (set : List ℕ) (least : Option ℕ) → IsLeastOf targets set least
    → IsOfPiece targets pieces piece set → IsTaken targets pieces piece least
taken_of targets pieces piece set None h o = o.bare h
taken_of targets pieces piece set (Some m) h o = o.further m h

pub of_taken : (targets : List ℕ) (pieces piece : ℕ) (set : List ℕ) (least : Option ℕ) → IsLeastOf targets set least
    → IsTaken targets pieces piece least → IsOfPiece targets pieces piece set
of_taken targets pieces piece set None h t = record { further = λ m l. absurd (l.further (h m l.member)); bare = λ w. t }
of_taken targets pieces piece set (Some m) h t = record {
  further = λ k l. subst (λ x. number targets x % pieces ≡ piece) (one_least targets set m k h l) t;
  bare = λ w. absurd (h.further (w m h.member));
}

-- each set has a least further member or none
some_least : (targets set : List ℕ) → (least : Option ℕ) × IsLeastOf targets set least
some_least targets [] = (None, λ x c. absurd (of_nil x c))
some_least targets (x ∷ xs) =
    let (least, h) = some_least targets xs in
    ⊎_elim (λ (c : Contains targets x). (least, least_skip targets xs least x c h))
    (λ (non : Contains targets x → ⊥). (Some (least_with least x), least_more targets xs least x non h)) (is_in targets x)

some_taken : (targets : List ℕ) (pieces : ℕ) (least : Option ℕ) → 0 < pieces → (piece : ℕ) × (piece < pieces)
    × IsTaken targets pieces piece least
some_taken targets pieces None pos = (0, pos, refl)
some_taken targets pieces (Some m) pos = (number targets m % pieces, omega arith, refl)

-- and so it goes to a piece: the parts together are the space
pub all_parts : (targets : List ℕ) (extra pieces : ℕ) (set : List ℕ) → 0 < pieces → InSpace targets extra set
    → Parts targets extra pieces 0 pieces set
all_parts targets extra pieces set pos (inl c) =
    let (least, h) = some_least targets set in
    let (piece, small, taken) = some_taken targets pieces least pos in
    (piece, omega arith, small, inl (c, of_taken targets pieces piece set least h taken))
all_parts targets extra pieces set pos (inr d) = (0, omega arith, pos, inr (d, refl))

pub part_space : (targets : List ℕ) (extra pieces low high : ℕ) (set : List ℕ) → Parts targets extra pieces low high set
    → InSpace targets extra set
part_space targets extra pieces low high set (piece, _, _, inl own) = inl own.0
part_space targets extra pieces low high set (piece, _, _, inr d) = inr d.0
