-- The bits of a word, joined by one operator, and what they say of its number.
use Rattle.std.proofs.Common.{◌≡◌, ℕ, zero, suc, ◌+◌, ◌*◌, ◌^◌, ◌<◌, ◌≤◌, Bool, true, false, List, [], ◌∷◌, ◌++◌, length, map, take, drop, not, ◌&&◌, ◌||◌, if◌then◌else◌, refl, sym, ap, ◌∙◌, arith}
use Rattle.std.specs.Prelude.{slice_index_or}
use Rattle.std.proofs.Math.Nat.{two-pow-succ}
use Rattle.std.proofs.Math.Seq.{take-suc}
use Rattle.std.proofs.lemmas.List.{get_or-drop, length-drop, length-take-le}
use Rattle.std.proofs.lemmas.Nat.{pow_pos}
use Rattle.std.proofs.Math.Bool.{or-false}
use Rattle.opgen_net.proofs.WordLaws.{cut-one}
use Rattle.opgen_num.specs.Words.{digit, nat, pairwise}
use Rattle.opgen_num.proofs.Cuts.{nat-append, take-below}
use Rattle.opgen_design.specs.declared.expr.Op.TheVariants.{And, Or}
use Rattle.opgen_design.specs.Plain.{trees_of}
use Rattle.opgen_design.specs.Tree.{Tree, chain}
use Rattle.opgen_design.specs.Value.{Scope, value, value_on}
use Rattle.opgen_saturate.specs.Recipe.{bit_of, operands, joined, differs}

-- one of so many truths from a place up, and all of them
abbrev pub any_at : (holds : ℕ → Bool) → (low count : ℕ) → Bool
any_at holds low zero = false
any_at holds low (suc k) = holds (low + k) || any_at holds low k

abbrev pub all_at : (holds : ℕ → Bool) → (low count : ℕ) → Bool
all_at holds low zero = true
all_at holds low (suc k) = holds (low + k) && all_at holds low k

-- the bits of a word
abbrev pub any_of : (w : List Bool) (low count : ℕ) → Bool
any_of w low count = any_at (λ p. slice_index_or w p false) low count

abbrev pub all_of : (w : List Bool) (low count : ℕ) → Bool
all_of w low count = all_at (λ p. slice_index_or w p false) low count

module _ (w : List Bool) (low : ℕ) where
  abbrev pub part_number : ℕ → ℕ
  part_number k = nat (take k (drop low w))

  next : (k : ℕ) → low + k < length w → part_number (suc k) ≡ part_number k + 2 ^ k * digit (slice_index_or w (low + k) false)
  next k h =
      let d = drop low w in
      let bit = slice_index_or w (low + k) false in
      let long : length (take k d) ≡ k = length-take-le k d (omega (arith, h, length-drop low w)) in
      ap nat (take-suc d k false (omega (arith, h, length-drop low w)) ∙ ap (λ b. take k d ++ b ∷ []) (get_or-drop low w k false))
      ∙ nat-append (take k d) (bit ∷ [])
      ∙ ap (λ n. nat (take k d) + 2 ^ n * nat (bit ∷ [])) long
      ∙ ap (λ n. nat (take k d) + 2 ^ k * n) (omega arith)

  pub any-number : (k : ℕ) → low + k ≤ length w
      → (any_of w low k ≡ true → 1 ≤ part_number k) × (any_of w low k ≡ false → part_number k ≡ 0)
  any-number zero h = (λ e. absurd (cc), λ e. refl)
  any-number (suc k) h =
      go (slice_index_or w (low + k) false) (any_of w low k) (any-number k (omega (arith, h))) (next k (omega (arith, h)))
    where
      go : (b r : Bool) → (r ≡ true → 1 ≤ part_number k) × (r ≡ false → part_number k ≡ 0)
          → part_number (suc k) ≡ part_number k + 2 ^ k * digit b
          → (b || r ≡ true → 1 ≤ part_number (suc k)) × (b || r ≡ false → part_number (suc k) ≡ 0)
      go true r p e = (λ f. omega (arith, e, pow_pos k), λ f. absurd (cc))
      go false true p e = (λ f. omega (arith, e, p.0 refl), λ f. absurd (cc))
      go false false p e = (λ f. absurd (cc), λ f. omega (arith, e, p.1 refl))

  pub all-number : (k : ℕ) → low + k ≤ length w
      → (all_of w low k ≡ true → part_number k + 1 ≡ 2 ^ k) × (all_of w low k ≡ false → part_number k + 1 < 2 ^ k)
  all-number zero h = (λ e. refl, λ e. absurd (cc))
  all-number (suc k) h =
      go (slice_index_or w (low + k) false) (all_of w low k) (all-number k (omega (arith, h))) (next k (omega (arith, h)))
    where
      go : (b r : Bool) → (r ≡ true → part_number k + 1 ≡ 2 ^ k) × (r ≡ false → part_number k + 1 < 2 ^ k)
          → part_number (suc k) ≡ part_number k + 2 ^ k * digit b
          → (b && r ≡ true → part_number (suc k) + 1 ≡ 2 ^ suc k) × (b && r ≡ false → part_number (suc k) + 1 < 2 ^ suc k)
      go true true p e = (λ f. omega (arith, e, p.0 refl, two-pow-succ k), λ f. absurd (cc))
      go true false p e = (λ f. absurd (cc), λ f. omega (arith, e, p.1 refl, two-pow-succ k))
      go false r p e =
          (λ f. absurd (cc), λ f. omega (arith, e, take-below k (drop low w), two-pow-succ k, pow_pos k))

pub or_or : (a b r : Bool) → (a || b) || r ≡ a || (b || r)
or_or true b r = refl
or_or false b r = refl

pub and_and : (a b r : Bool) → (a && b) && r ≡ a && (b && r)
and_and true b r = refl
and_and false b r = refl

pub and_none : (a : Bool) → a && true ≡ a
and_none true = refl
and_none false = refl

-- the values of operands of one bit that are joined
module _ (s : Scope) (operand : ℕ → Tree) (holds : ℕ → Bool) (low : ℕ) where
  -- so many operands from the place up have one bit each
  abbrev pub AreOne : ℕ → Type 0
  AreOne count = (p : ℕ) → low ≤ p → p < low + count → value s (operand p) ≡ holds p ∷ []

  on_or : (k : ℕ) (a : Bool) → AreOne k → value_on s Or (a ∷ []) (trees_of (operands operand low k)) ≡ (a || any_at holds low k) ∷ []
  on_or zero a one = ap (λ c. c ∷ []) (sym (or-false a))
  on_or (suc k) a one =
      let b = holds (low + k) in
      ap (λ v. value_on s Or (pairwise ◌||◌ (a ∷ []) v) (trees_of (operands operand low k))) (one (low + k) (omega arith) (omega arith))
      ∙ on_or k (a || b) (λ p h l. one p h (omega (arith, l)))
      ∙ ap (λ c. c ∷ []) (or_or a b (any_at holds low k))

  pub chain_or : (k : ℕ) → AreOne (suc k) → value s (chain Or (trees_of (operands operand low (suc k)))) ≡ any_at holds low (suc k) ∷ []
  chain_or k one =
      ap (λ v. value_on s Or v (trees_of (operands operand low k))) (one (low + k) (omega arith) (omega arith))
      ∙ on_or k (holds (low + k)) (λ p h l. one p h (omega (arith, l)))

  on_and : (k : ℕ) (a : Bool) → AreOne k → value_on s And (a ∷ []) (trees_of (operands operand low k)) ≡ (a && all_at holds low k) ∷ []
  on_and zero a one = ap (λ c. c ∷ []) (sym (and_none a))
  on_and (suc k) a one =
      let b = holds (low + k) in
      ap (λ v. value_on s And (pairwise ◌&&◌ (a ∷ []) v) (trees_of (operands operand low k))) (one (low + k) (omega arith) (omega arith))
      ∙ on_and k (a && b) (λ p h l. one p h (omega (arith, l)))
      ∙ ap (λ c. c ∷ []) (and_and a b (all_at holds low k))

  chain_and : (k : ℕ) → AreOne (suc k) → value s (chain And (trees_of (operands operand low (suc k)))) ≡ all_at holds low (suc k) ∷ []
  chain_and k one =
      ap (λ v. value_on s And v (trees_of (operands operand low k))) (one (low + k) (omega arith) (omega arith))
      ∙ on_and k (holds (low + k)) (λ p h l. one p h (omega (arith, l)))

-- one of so many bits of a node, or all of them
abbrev pub differ : (both : Bool) → (w : List Bool) → (low count : ℕ) → Bool
differ both w low count = if both then any_of w low count && not (all_of w low count) else any_of w low count

module _ (s : Scope) (n low : ℕ) where
  abbrev w : List Bool
  w = s.names n

  abbrev bit : ℕ → Bool
  bit p = slice_index_or w p false

  at_start : bit low ≡ bit (low + 0)
  at_start = let e : low ≡ low + 0 = omega arith in ap bit e

  ones : (count : ℕ) → low + count ≤ length w → AreOne s (bit_of n) bit low count
  ones count h p lower upper = cut-one w p (omega (arith, upper, h))

  or-value : (count : ℕ) → 1 ≤ count → low + count ≤ length w → value s (joined Or n low count) ≡ any_of w low count ∷ []
  or-value zero some h = absurd (omega (arith, some))
  or-value (suc zero) some h = cut-one w low (omega (arith, h)) ∙ ap (λ c. c ∷ []) (at_start ∙ sym (or-false (bit (low + 0))))
  or-value (suc (suc k)) some h = chain_or s (bit_of n) bit low (suc k) (ones (suc (suc k)) h)

  and-value : (count : ℕ) → 1 ≤ count → low + count ≤ length w → value s (joined And n low count) ≡ all_of w low count ∷ []
  and-value zero some h = absurd (omega (arith, some))
  and-value (suc zero) some h = cut-one w low (omega (arith, h)) ∙ ap (λ c. c ∷ []) (at_start ∙ sym (and_none (bit (low + 0))))
  and-value (suc (suc k)) some h = chain_and s (bit_of n) bit low (suc k) (ones (suc (suc k)) h)

  pub differs-value : (both : Bool) (count : ℕ) → 1 ≤ count → low + count ≤ length w
      → value s (differs both n low count) ≡ differ both w low count ∷ []
  differs-value false count some h = or-value count some h
  differs-value true count some h =
      ap (λ v. pairwise ◌&&◌ v (map not (value s (joined And n low count)))) (or-value count some h)
      ∙ ap (λ v. pairwise ◌&&◌ (any_of w low count ∷ []) (map not v)) (and-value count some h)
