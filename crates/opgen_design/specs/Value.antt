-- The width of an expression, how deep its parentheses nest, and its value on bits (IEEE 1076-1993, 7.2, and numeric_std).
use Rattle.std.specs.Prelude.{ℕ, ◌+◌, ◌-◌, Bool, true, false, not, ◌&&◌, ◌||◌, List, [], ◌∷◌, ◌++◌, map, take, drop, slice_index_or, ◌≤◌, max, length, Option, Some, None, option_and_then, if◌then◌else◌, nat_le, nat_lt, nat_eq, slice_get}
use Rattle.opgen_num.specs.Words.{xor, pairwise, sum_with}
use Rattle.opgen_design.specs.declared.expr.Op.{Op}
use Rattle.opgen_design.specs.declared.expr.Op.TheVariants.{And, Or, Xor, Cat, Plus, Minus}
use Rattle.opgen_design.specs.Tree.{Tree, Trees, name, part, bits, port, inverse, chain, none, more}
use Rattle.opgen_num.specs.declared.format.TheConstants.{MAX_WIDTH}

abbrev pub IsWidth : ℕ → Type 0
IsWidth w = (1 ≤ w) × (w ≤ MAX_WIDTH)

-- the number, if it is the width of a signal
abbrev pub as_width : ℕ → Option ℕ
as_width w = if nat_le 1 w && nat_le w MAX_WIDTH then Some w else None

-- the width of two operands together: `&` adds, the other operators ask for equal widths
abbrev pub joined : Op → ℕ → ℕ → Option ℕ
joined Cat a b = as_width (a + b)
joined _ a b = if nat_eq a b then Some a else None

-- the same of widths that may be none
abbrev pub joined_options : Op → Option ℕ → Option ℕ → Option ℕ
joined_options op a b = option_and_then (λ w. option_and_then (joined op w) b) a

abbrev mutual
  -- the width of an expression over the widths of names and ports; none where parts do not fit, or a part has no width of a signal
  pub width : (names ports : List ℕ) → Tree → Option ℕ
  width ns ps (name n) = option_and_then as_width (slice_get ns n)
  width ns ps (part n high low) =
      option_and_then (λ w. if nat_le low high && nat_lt high w then as_width (high + 1 - low) else None) (slice_get ns n)
  width ns ps (bits w) = as_width (length w)
  width ns ps (port n) = option_and_then as_width (slice_get ps n)
  width ns ps (inverse t) = width ns ps t
  width ns ps (chain op ts) = chain_width ns ps op ts

  -- a chain has two operands or more
  pub chain_width : (names ports : List ℕ) → Op → Trees → Option ℕ
  chain_width ns ps op none = None
  chain_width ns ps op (more t none) = None
  chain_width ns ps op (more t ts) = option_and_then (λ w. width_on ns ps op w ts) (width ns ps t)

  pub width_on : (names ports : List ℕ) → Op → ℕ → Trees → Option ℕ
  width_on ns ps op w none = Some w
  width_on ns ps op w (more t ts) = option_and_then (λ v. option_and_then (λ u. width_on ns ps op u ts) (joined op w v)) (width ns ps t)

-- an operand that is a chain stands in parentheses, and below `not` an operand that is a `not` too
abbrev pub in_chain : Tree → ℕ
in_chain (chain op ts) = 1
in_chain _ = 0

abbrev pub in_not : Tree → ℕ
in_not (chain op ts) = 1
in_not (inverse t) = 1
in_not _ = 0

abbrev mutual
  -- the most parentheses round operands that are open at one place of an expression's text
  pub nesting : Tree → ℕ
  nesting (inverse t) = in_not t + nesting t
  nesting (chain op ts) = operands_nesting ts
  nesting _ = 0

  pub operands_nesting : Trees → ℕ
  operands_nesting none = 0
  operands_nesting (more t ts) = max (in_chain t + nesting t) (operands_nesting ts)

-- the word at a place of a list; no bits past its end
abbrev pub word_at : List (List Bool) → ℕ → List Bool
word_at ws n = slice_index_or ws n []

-- the bits from low to high
abbrev pub cut : (high low : ℕ) → List Bool → List Bool
cut high low w = take (high + 1 - low) (drop low w)

-- two operands; the first of `&` stands highest, and a difference is the sum with the turned bits and a carry
abbrev pub combined : Op → List Bool → List Bool → List Bool
combined And a b = pairwise ◌&&◌ a b
combined Or a b = pairwise ◌||◌ a b
combined Xor a b = pairwise xor a b
combined Cat a b = b ++ a
combined Plus a b = sum_with false a b
combined Minus a b = sum_with true a (map not b)

-- a word for each node or signal, and for each port
pub record Scope : Type 0 where
  pub names : ℕ → List Bool
  pub ports : ℕ → List Bool

abbrev mutual
  pub value : Scope → Tree → List Bool
  value s (name n) = s.names n
  value s (part n high low) = cut high low (s.names n)
  value s (bits w) = w
  value s (port n) = s.ports n
  value s (inverse t) = map not (value s t)
  value s (chain op ts) = chain_value s op ts

  pub chain_value : Scope → Op → Trees → List Bool
  chain_value s op none = []
  chain_value s op (more t ts) = value_on s op (value s t) ts

  -- a chain goes from the left
  pub value_on : Scope → Op → List Bool → Trees → List Bool
  value_on s op w none = w
  value_on s op w (more t ts) = value_on s op (combined op w (value s t)) ts

-- the first where the condition is the bit 1, and else the second
abbrev pub chosen : List Bool → List Bool → List Bool → List Bool
chosen (true ∷ []) first second = first
chosen _ first second = second
