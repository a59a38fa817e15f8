-- The expressions of the step fit: of one bit, over a node that has the bits they read.
use Rattle.std.proofs.Common.{◌≡◌, ℕ, zero, suc, ◌+◌, ◌-◌, ◌≤◌, ◌<◌, Bool, true, false, List, [], Some, None, refl, ap, ◌∙◌, arith}
use Rattle.std.specs.Prelude.{slice_index, slice_get, option_and_then, if◌then◌else◌, nat_le, nat_lt, ◌&&◌}
use Rattle.std.proofs.lemmas.Bool.{le-leb, lt-ltb}
use Rattle.std.proofs.lemmas.Option.{slice_get-get_or}
use Rattle.opgen_design.specs.declared.expr.Op.{Op}
use Rattle.opgen_design.specs.declared.expr.Op.TheVariants.{And, Or}
use Rattle.opgen_design.specs.Plain.{trees_of}
use Rattle.opgen_design.specs.Tree.{Tree, name, inverse, chain, none, more}
use Rattle.opgen_design.specs.Value as wide
use Rattle.opgen_design.specs.Value.{as_width, width, width_on, nesting, operands_nesting, in_chain, in_not}
use Rattle.opgen_net.specs.Valid.{FitsNodes}
use Rattle.opgen_net.proofs.FlowLaws.{index_within}
use Rattle.opgen_saturate.specs.Recipe.{bit_of, operands, joined, differs, any_node}

module _ (ws : List ℕ) (n : ℕ) where
  pub bit-width : (p : ℕ) → p < slice_index ws n → width ws [] (bit_of n p) ≡ Some 1
  bit-width p h =
      let v = slice_index ws n in
      let there : slice_get ws n ≡ Some v = slice_get-get_or ws n 0 (index_within ws n p h) in
      let one : p + 1 - p ≡ 1 = omega arith in
      ap (option_and_then (λ w. if nat_le p p && nat_lt p w then as_width (p + 1 - p) else None)) there
      ∙ ap (λ c. if c && nat_lt p v then as_width (p + 1 - p) else None) (le-leb p p (omega arith))
      ∙ ap (λ c. if c then as_width (p + 1 - p) else None) (lt-ltb p v h)
      ∙ ap as_width one

-- operands of one bit that are joined
module _ (ws : List ℕ) (operand : ℕ → Tree) (op : Op) (one : wide.joined op 1 1 ≡ Some 1) (low : ℕ) where
  abbrev pub AreWide : ℕ → Type 0
  AreWide count = (p : ℕ) → low ≤ p → p < low + count → width ws [] (operand p) ≡ Some 1

  on-width : (k : ℕ) → AreWide k → width_on ws [] op 1 (trees_of (operands operand low k)) ≡ Some 1
  on-width zero h = refl
  on-width (suc k) h =
      ap (option_and_then (λ v. option_and_then (λ u. width_on ws [] op u (trees_of (operands operand low k))) (wide.joined op 1 v)))
      (h (low + k) (omega arith) (omega arith))
      ∙ ap (option_and_then (λ u. width_on ws [] op u (trees_of (operands operand low k)))) one
      ∙ on-width k (λ p a b. h p a (omega (arith, b)))

  pub chain-width : (k : ℕ) → AreWide (suc (suc k)) → width ws [] (chain op (trees_of (operands operand low (suc (suc k))))) ≡ Some 1
  chain-width k h =
      ap (option_and_then (λ v. width_on ws [] op v (trees_of (operands operand low (suc k))))) (h (low + suc k) (omega arith) (omega arith))
      ∙ on-width (suc k) (λ p a b. h p a (omega (arith, b)))

module _ (ws : List ℕ) (n : ℕ) (op : Op) (one : wide.joined op 1 1 ≡ Some 1) (low : ℕ) where
  joined-width : (count : ℕ) → 1 ≤ count → low + count ≤ slice_index ws n → width ws [] (joined op n low count) ≡ Some 1
  joined-width zero some h = absurd (omega (arith, some))
  joined-width (suc zero) some h = bit-width ws n low (omega (arith, h))
  joined-width (suc (suc k)) some h = chain-width ws (bit_of n) op one low k (λ p a b. bit-width ws n p (omega (arith, b, h)))

-- operands that are no chains nest nothing
module _ (operand : ℕ → Tree) (plain : (p : ℕ) → in_chain (operand p) + nesting (operand p) ≡ 0) (low : ℕ) where
  pub no_nesting : (k : ℕ) → operands_nesting (trees_of (operands operand low k)) ≡ 0
  no_nesting zero = refl
  no_nesting (suc k) = omega (arith, no_nesting k, plain (low + k))

joined-nests : (op : Op) (n low count : ℕ) → nesting (joined op n low count) ≡ 0
joined-nests op n low zero = refl
joined-nests op n low (suc zero) = refl
joined-nests op n low (suc (suc k)) = no_nesting (bit_of n) (λ p. refl) low (suc (suc k))

joined-chain : (op : Op) (n low count : ℕ) → (in_chain (joined op n low count) ≤ 1) × (in_not (joined op n low count) ≤ 1)
joined-chain op n low zero = (omega arith, omega arith)
joined-chain op n low (suc zero) = (omega arith, omega arith)
joined-chain op n low (suc (suc k)) = (omega arith, omega arith)

pub bit-fits : (ws : List ℕ) (n p : ℕ) → p < slice_index ws n → FitsNodes ws 1 (bit_of n p)
bit-fits ws n p h = record { has_width = bit-width ws n p h; nests = omega arith }

module _ (ws : List ℕ) (n low count : ℕ) (some : 1 ≤ count) (there : low + count ≤ slice_index ws n) where
  abbrev both_tree : Tree
  both_tree = chain And (more (joined Or n low count) (more (inverse (joined And n low count)) none))

  or-width : width ws [] (joined Or n low count) ≡ Some 1
  or-width = joined-width ws n Or refl low count some there

  and-width : width ws [] (joined And n low count) ≡ Some 1
  and-width = joined-width ws n And refl low count some there

  pub differs-fits : (both : Bool) → FitsNodes ws 1 (differs both n low count)
  differs-fits true = record {
    has_width = ap (option_and_then (λ v. width_on ws [] And v (more (inverse (joined And n low count)) none))) or-width
        ∙ ap (option_and_then (λ v. option_and_then (λ u. Some u) (wide.joined And 1 v))) and-width;
    nests =
        omega (
          arith,
          joined-nests Or n low count,
          joined-nests And n low count,
          (joined-chain Or n low count).0,
          (joined-chain And n low count).1,
        );
  }
  differs-fits false = record { has_width = or-width; nests = omega (arith, joined-nests Or n low count) }

-- nodes of one bit
node-width : (ws : List ℕ) (p : ℕ) → slice_index ws p ≡ 1 → width ws [] (name p) ≡ Some 1
node-width ws p e =
    let there : slice_get ws p ≡ Some (slice_index ws p) = slice_get-get_or ws p 0 (index_within ws p 0 (omega (arith, e))) in
    ap (option_and_then as_width) there ∙ ap as_width e

pub any_node-fits : (ws : List ℕ) (first k : ℕ) → ((p : ℕ) → first ≤ p → p < first + suc (suc k) → slice_index ws p ≡ 1)
    → FitsNodes ws 1 (any_node first (suc (suc k)))
any_node-fits ws first k h = record {
  has_width = chain-width ws name Or refl first k (λ p a b. node-width ws p (h p a b));
  nests = omega (arith, no_nesting name (λ p. refl) first (suc (suc k)));
}
