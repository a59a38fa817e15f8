-- A sorted list of places is an order of a sound design's drivers.
use Rattle.std.proofs.Common.{◌≡◌, ℕ, ◌+◌, ◌^◌, ◌<◌, ◌≤◌, Bool, true, false, if◌then◌else◌, List, [], ◌∷◌, ◌++◌, length, get_or, drop, Some, refl, sym, ap, ◌∙◌, subst, inl, inr, arith}
use Rattle.std.specs.Prelude.{slice_get, Contains}
use Rattle.std.specs.List.Sorted.{IsPermutation, IsNonDecreasingBy}
use Rattle.std.proofs.lemmas.Bool.{cases_lt, cases_eq}
use Rattle.std.proofs.lemmas.List.{length_push, append_assoc, append-nil, get_or_append_left, get_or_push, drop_more, drop_all}
use Rattle.std.proofs.lemmas.Option.{slice_get_within, slice_get-get_or, get_or_from_slice_get}
use Rattle.opgen_components.specs.declared.Component.{Component}
use Rattle.opgen_components.specs.Graph.{component_of}
use Rattle.opgen_design.specs.declared.design.Design.{Design}
use Rattle.opgen_design.specs.declared.design.Driver.{Driver}
use Rattle.opgen_design.specs.Order.{is_register, IsOrderOf, AreRanks, IsSmallAt, rank_at, waiting}
use Rattle.opgen_design.specs.Rules.{AreGroups}
use Rattle.opgen_design.specs.declared.design.Target.{Target}
use Rattle.opgen_design.specs.declared.design.Target.TheVariants.{Signal as signal, Port as port_of}
use Rattle.opgen_design.specs.Sound.{target, Needs, DependsOn, at_once, through, IsOrdered}
use Rattle.opgen_design.proofs.SoundLaws.{at-contains}

-- in a numbered design no signal depends on itself
module _ (d : Design) (o : IsOrdered d) where
  falls : (s r : ℕ) → DependsOn d s r → o.0 r < o.0 s
  falls s r (at_once k c t n) = o.1 s r k c t n
  falls s r (through p q) = omega (arith, falls s _ p, falls _ r q)

  pub off-cycles : (s : ℕ) → DependsOn d s s → ⊥
  off-cycles s p = omega (arith, falls s s p)

by-register : (b : Bool) (i : ℕ) (rest : List ℕ) → (if b then [] else i ∷ []) ++ rest ≡ (if b then rest else i ∷ rest)
by-register true i rest = refl
by-register false i rest = refl

-- the places that are left, by one driver
pub waiting-more : (ks : List Driver) (i : ℕ) (k : Driver) → slice_get ks i ≡ Some k → (found : List ℕ)
    → (found ++ (if is_register k then [] else i ∷ [])) ++ waiting (i + 1) (drop (i + 1) ks) ≡ found ++ waiting i (drop i ks)
waiting-more ks i k e found =
    let l = slice_get_within ks i k e in
    let g = get_or_from_slice_get ks i k k e in
    let f = drop_more ks i k l ∙ ap (λ x. x ∷ drop (i + 1) ks) g in
    append_assoc found (if is_register k then [] else i ∷ []) (waiting (i + 1) (drop (i + 1) ks))
    ∙ ap (λ x. found ++ x) (by-register (is_register k) i (waiting (i + 1) (drop (i + 1) ks)) ∙ sym (ap (waiting i) f))

pub waiting-all : (ks : List Driver) (i : ℕ) (found : List ℕ) → length ks ≤ i → found ++ waiting i (drop i ks) ≡ waiting 0 ks → found
    ≡ waiting 0 ks
waiting-all ks i found l h = sym (append-nil found) ∙ ap (λ x. found ++ waiting i x) (sym (drop_all i ks l)) ∙ h

-- one rank more
module _ (d : Design) (cs : List Component) (n : ℕ) (ranks : List ℕ) (h : AreRanks d cs n ranks) (k : Driver)
    (at : slice_get d.drivers n ≡ Some k) (rank : ℕ) (is : rank ≡ rank_at cs (target k)) (small : IsSmallAt cs (target k)) where
  same-driver : (i : ℕ) (m : Driver) → i ≡ n → slice_get d.drivers i ≡ Some m → k ≡ m
  same-driver i m f e = let a : Some k ≡ Some m = sym at ∙ ap (slice_get d.drivers) (sym f) ∙ e in cc

  pub ranks-more : AreRanks d cs (n + 1) (ranks ++ rank ∷ [])
  ranks-more = record {
    one_each = omega (arith, length_push ranks rank, h.one_each);
    rank = λ i m l e. elim (cases_eq i n) [
      | inl f ↦
          let a : get_or (ranks ++ rank ∷ []) i 0 ≡ rank = get_or_push ranks rank 0 i (h.one_each ∙ sym f) in
          slice_get-get_or (ranks ++ rank ∷ []) i 0 (omega (arith, f, length_push ranks rank, h.one_each))
          ∙ ap Some (a ∙ is ∙ ap (λ x. rank_at cs (target x)) (same-driver i m f e))
      | inr f ↦
          let b = h.rank i m (omega (arith, l, f)) e in
          let c = get_or_from_slice_get ranks i (rank_at cs (target m)) 0 b in
          slice_get-get_or (ranks ++ rank ∷ []) i 0 (omega (arith, l, length_push ranks rank, h.one_each))
          ∙ ap Some (get_or_append_left ranks (rank ∷ []) 0 i (slice_get_within ranks i (rank_at cs (target m)) b) ∙ c)
    ];
    small = λ i m l e. elim (cases_eq i n) [
      | inl f ↦ subst (λ x. IsSmallAt cs (target x)) (same-driver i m f e) small
      | inr f ↦ h.small i m (omega (arith, l, f)) e
    ];
  }

module _ (d : Design) (cs : List Component) (groups : AreGroups d cs) (off : (s : ℕ) → DependsOn d s s → ⊥) (ranks : List ℕ)
    (h : AreRanks d cs (length d.drivers) ranks) where
  rank-less : (t : Target) (s r : ℕ) (k : Driver) → t ≡ signal r → target k ≡ signal s
      → (component_of cs r).number < (component_of cs s).number → rank_at cs t < rank_at cs (target k)
  rank-less t s r k e f l = omega (arith, l, ap (rank_at cs) e, ap (rank_at cs) f)

  needed-below : (k m : Driver) (r : ℕ) → Contains d.drivers k → (u : Target) → target k ≡ u → target m ≡ signal r → Needs r k
      → IsSmallAt cs (target m) → rank_at cs (target m) < rank_at cs u
  needed-below k m r c (signal s) e f n small = omega (arith, groups.smaller s r k c e n (off s), ap (rank_at cs) f)
  needed-below k m r c (port_of p) e f n small =
      let a : (component_of cs r).number < 2 ^ 64 = subst (IsSmallAt cs) f small in
      omega (arith, a, ap (rank_at cs) f)

  pub is-order : (order : List ℕ) → IsPermutation (waiting 0 d.drivers) order → IsNonDecreasingBy (λ i. get_or ranks i 0) order
      → IsOrderOf d order
  is-order order perm up = record {
    each_once = perm;
    needs_first = λ p q i j s k m a b e f t n.
        let rk = h.rank i k (slice_get_within d.drivers i k b) b in
        let rm = h.rank j m (slice_get_within d.drivers j m f) f in
        let below = needed-below k m s (at-contains d.drivers i k b) (target k) refl t n
        (h.small j m (slice_get_within d.drivers j m f) f) in
        elim (cases_lt q p) [
          | inl l ↦ l
          | inr l ↦
              let g = up p q 0 l (slice_get_within order q j e) in
              let x = ap (λ y. get_or ranks y 0) (get_or_from_slice_get order p i 0 a)
              ∙ get_or_from_slice_get ranks i (rank_at cs (target k)) 0 rk in
              let y = ap (λ y. get_or ranks y 0) (get_or_from_slice_get order q j 0 e)
              ∙ get_or_from_slice_get ranks j (rank_at cs (target m)) 0 rm in
              absurd (omega (arith, g, x, y, below))
        ];
  }
