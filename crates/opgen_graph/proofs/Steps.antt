-- The sum or difference of an adder, over words that are the input times its two numbers.
use Rattle.std.proofs.Common.{◌≡◌, ℕ, ◌+◌, ◌*◌, ◌^◌, ◌<◌, ◌≤◌, Bool, true, false, List, refl, sym, ap, ◌∙◌, ⊎_elim, arith}
use Rattle.std.specs.Prelude.{ℤ, pos, ◌+ℤ◌, ◌*ℤ◌, nat_lt, if◌then◌else◌}
use Rattle.std.proofs.lemmas.Int.{ints}
use Rattle.std.proofs.lemmas.Bool.{ltb-true, ltb-false}
use Rattle.opgen_design.specs.Value.{Scope, value}
use Rattle.opgen_net.specs.Placed.{difference_of}
use Rattle.opgen_graph.specs.declared.forms.Form.{Form}
use Rattle.opgen_graph.specs.declared.forms.Form.TheVariants.{A, B, C, D, E}
use Rattle.opgen_graph.specs.Adders.{Makes}
use Rattle.opgen_graph.specs.Recipe.{zeros_below, dropped, sum_of, added}
use Rattle.opgen_graph.proofs.Residues.{Has, has, sum-has, difference-has, factor_sum}

module _ (s : Scope) (bits : ℕ) (x : ℤ) where
  -- a word that is x times a number
  abbrev Times : List Bool → ℕ → Type 0
  Times w n = Has bits (x *ℤ pos n) w

  plus : (a b p q m : ℕ) → Times (s.names a) p → Times (s.names b) q → p + q ≡ m → Times (value s (sum_of a b)) m
  plus a b p q m h g e =
      has bits _ _ _ (factor_sum x p q ∙ ap (λ n. x *ℤ pos n) e) (sum-has bits (x *ℤ pos p) (x *ℤ pos q) (s.names a) (s.names b) h g)

  minus : (a b p q m : ℕ) → Times (s.names a) p → Times (s.names b) q → p ≡ m + q → Times (value s (difference_of a b)) m
  minus a b p q m h g e =
      let whole : (x *ℤ pos m) +ℤ (x *ℤ pos q) ≡ x *ℤ pos p = factor_sum x m q ∙ ap (λ n. x *ℤ pos n) (sym e) in
      has bits _ _ _ (omega (arith, ints, whole)) (difference-has bits (x *ℤ pos p) (x *ℤ pos q) (s.names a) (s.names b) h g)

  -- it is x times the adder's number, above the bits that are dropped
  pub added-has : (form : Form) (i u v f a b : ℕ) → Makes form i u v f → Times (s.names a) (2 ^ zeros_below form i * u)
      → Times (s.names b) (2 ^ 0 * v) → Times (value s (added form u v a b)) (2 ^ dropped form i * f)
  added-has A i u v f a b m h g = plus a b _ _ _ h g (omega (arith, m))
  added-has B i u v f a b m h g = minus a b _ _ _ h g (omega (arith, m))
  added-has C i u v f a b m h g = minus b a _ _ _ g h (omega (arith, m))
  added-has D r u v f a b m h g = plus a b _ _ _ h g (omega (arith, m))
  added-has E r u v f a b m h g = go (nat_lt u v) (λ t. ltb-true u v t) (λ t. ltb-false u v t)
    where
      go : (t : Bool) → (t ≡ true → u < v) → (t ≡ false → v ≤ u)
          → Times (value s (if t then difference_of b a else difference_of a b)) (2 ^ r * f)
      go true less more =
          minus b a _ _ _ g h
          (⊎_elim (λ (k : u ≡ v + 2 ^ r * f). absurd (omega (arith, k, less refl))) (λ (k : v ≡ u + 2 ^ r * f). omega (arith, k)) m)
      go false less more =
          minus a b _ _ _ h g
          (⊎_elim (λ (k : u ≡ v + 2 ^ r * f). omega (arith, k)) (λ (k : v ≡ u + 2 ^ r * f). omega (arith, k, more refl)) m)
