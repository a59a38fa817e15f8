-- The words of the expressions, and the numbers of those words.
use Rattle.std.proofs.Common.{◌≡◌, ℕ, zero, suc, ◌+◌, ◌*◌, ◌^◌, ◌≤◌, Bool, true, false, not, List, [], ◌∷◌, ◌++◌, length, map, replicate, refl, sym, ap, ◌∙◌, arith}
use Rattle.std.specs.Prelude.{nat_eq, ◌&&◌, if◌then◌else◌}
use Rattle.std.proofs.lemmas.Bool.{eqb-true}
use Rattle.opgen_num.specs.Words.{nat, xor, pairwise, sum_with}
use Rattle.opgen_num.proofs.Carries.{nat-not, sum-carry}
use Rattle.opgen_num.proofs.Cuts.{nat-append}
use Rattle.opgen_design.specs.declared.expr.Op.TheVariants.{Cat}
use Rattle.opgen_design.specs.Plain.{trees_of}
use Rattle.opgen_design.specs.Tree.{Tree, chain}
use Rattle.opgen_design.specs.Value.{Scope, value, value_on}
use Rattle.opgen_nonrestoring.specs.Recipe.{every}

-- a bit in each place
module _ (s : Scope) (t : Tree) (b : Bool) (h : value s t ≡ b ∷ []) where
  copies-value : (k j : ℕ) → value_on s Cat (replicate j b) (trees_of (replicate k t)) ≡ replicate (k + j) b
  copies-value zero j = let e : j ≡ 0 + j = omega arith in ap (λ (n : ℕ). replicate n b) e
  copies-value (suc k) j =
      let e : k + suc j ≡ suc k + j = omega arith in
      ap (λ w. value_on s Cat (w ++ replicate j b) (trees_of (replicate k t))) h
      ∙ copies-value k (suc j)
      ∙ ap (λ (n : ℕ). replicate n b) e

  many-value : (w : ℕ) → 1 ≤ w → value s (chain Cat (trees_of (replicate w t))) ≡ replicate w b
  many-value zero some = absurd (omega (arith, some))
  many-value (suc k) some =
      let e : k + 1 ≡ suc k = omega arith in
      ap (λ w. value_on s Cat w (trees_of (replicate k t))) h ∙ copies-value k 1 ∙ ap (λ (n : ℕ). replicate n b) e

  pub every-value : (w : ℕ) → 1 ≤ w → value s (every w t) ≡ replicate w b
  every-value w some = by (nat_eq w 1) (λ e. ap (λ (n : ℕ). replicate n b) (sym (eqb-true w 1 e)))
    where
      by : (c : Bool) → (c ≡ true → b ∷ [] ≡ replicate w b) → value s (if c then t else chain Cat (trees_of (replicate w t))) ≡ replicate w b
      by true f = h ∙ f refl
      by false f = many-value w some

-- each bit of a word turned where a bit is 1

abbrev pub turned_by : Bool → List Bool → List Bool
turned_by turns w = if turns then map not w else w

pub xor-every : (w : List Bool) (turns : Bool) → pairwise xor w (replicate (length w) turns) ≡ turned_by turns w
xor-every [] true = refl
xor-every [] false = refl
xor-every (true ∷ w) true = ap (λ v. false ∷ v) (xor-every w true)
xor-every (false ∷ w) true = ap (λ v. true ∷ v) (xor-every w true)
xor-every (true ∷ w) false = ap (λ v. true ∷ v) (xor-every w false)
xor-every (false ∷ w) false = ap (λ v. false ∷ v) (xor-every w false)

pub not-every : (k : ℕ) (b : Bool) → map not (replicate k b) ≡ replicate k (not b)
not-every zero b = refl
not-every (suc k) b = ap (λ v. not b ∷ v) (not-every k b)

pub two-every : (k : ℕ) (a b : Bool) → pairwise xor (replicate k a) (replicate k b) ≡ replicate k (xor a b)
two-every zero a b = refl
two-every (suc k) a b = ap (λ v. xor a b ∷ v) (two-every k a b)

-- a word where a bit is 1, and else zeros
abbrev pub kept_by : Bool → ℕ → ℕ
kept_by keeps n = if keeps then n else 0

pub and-every : (w : List Bool) (keeps : Bool) → nat (pairwise ◌&&◌ w (replicate (length w) keeps)) ≡ kept_by keeps (nat w)
and-every [] true = refl
and-every [] false = refl
and-every (true ∷ w) true = omega (arith, and-every w true)
and-every (false ∷ w) true = omega (arith, and-every w true)
and-every (true ∷ w) false = omega (arith, and-every w false)
and-every (false ∷ w) false = omega (arith, and-every w false)

-- the number of a word with turned bits, or without
pub turned-number : (w : List Bool) (turns : Bool)
    → (turns ≡ true → nat (turned_by turns w) + nat w + 1 ≡ 2 ^ length w) × (turns ≡ false → nat (turned_by turns w) ≡ nat w)
turned-number w true = (λ e. nat-not w, λ e. absurd (cc))
turned-number w false = (λ e. absurd (cc), λ e. refl)

-- a sum of two words of one length, as a number with a last carry
pub total : (a b : List Bool) → length a ≡ length b → (c : ℕ) × (nat (sum_with false a b) + 2 ^ length a * c ≡ nat a + nat b)
total a b h = let s = sum-carry false a b h in (s.0, omega (arith, s.1))

-- a zero above a word
pub zero-above : (w : List Bool) → nat (w ++ false ∷ []) ≡ nat w
zero-above w = omega (arith, nat-append w (false ∷ []))
