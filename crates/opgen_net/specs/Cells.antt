-- What the cells of an expression are, by their class: wires, logic in which each bit reads at most six bits, or one sum.
use Rattle.std.specs.Prelude.{ℕ, zero, suc, ◌+◌, ◌-◌, ◌≤◌, ◌≡◌, refl, max, Bool, true, false, ◌&&◌, IsTrue, All, Contains, List, [], ◌∷◌, ◌++◌, length, map, slice_index}
use Rattle.opgen_design.specs.declared.expr.Op.{Op}
use Rattle.opgen_design.specs.declared.expr.Op.TheVariants.{And, Or, Xor, Cat, Plus, Minus}
use Rattle.opgen_design.specs.Tree.{Tree, Trees, name, part, bits, port, inverse, chain, none, more}
use Rattle.opgen_net.specs.declared.cell.Class.{Class}
use Rattle.opgen_net.specs.declared.cell.Class.TheVariants as class

abbrev mutual
  -- slices, constants and `&` of these: such an expression costs no cell
  pub is_wire : Tree → Bool
  is_wire (name n) = true
  is_wire (part n high low) = true
  is_wire (bits w) = true
  is_wire (port n) = false
  is_wire (inverse t) = false
  is_wire (chain Cat ts) = are_wires ts
  is_wire (chain op ts) = false

  pub are_wires : Trees → Bool
  are_wires none = true
  are_wires (more t ts) = is_wire t && are_wires ts

-- one `+` or `-` of two operands, which are wires
abbrev pub is_sum : Tree → Bool
is_sum (chain Plus (more a (more b none))) = is_wire a && is_wire b
is_sum (chain Minus (more a (more b none))) = is_wire a && is_wire b
is_sum _ = false

-- how many levels of gates an operator is: `&` is none
abbrev pub gates_of : Op → ℕ
gates_of Cat = 0
gates_of _ = 1

abbrev mutual
  -- no operator of an expression adds
  pub is_bitwise : Tree → Bool
  is_bitwise (inverse t) = is_bitwise t
  is_bitwise (chain Plus ts) = false
  is_bitwise (chain Minus ts) = false
  is_bitwise (chain op ts) = are_bitwise ts
  is_bitwise _ = true

  pub are_bitwise : Trees → Bool
  are_bitwise none = true
  are_bitwise (more t ts) = is_bitwise t && are_bitwise ts

abbrev mutual
  -- the most chains of operators that stand one in the other, `not` and `&` aside
  pub levels : Tree → ℕ
  levels (inverse t) = levels t
  levels (chain op ts) = gates_of op + operand_levels ts
  levels _ = 0

  pub operand_levels : Trees → ℕ
  operand_levels none = 0
  operand_levels (more t ts) = max (levels t) (operand_levels ts)

-- a bit of a node, by its place
abbrev pub Bit : Type 0
Bit = ℕ × ℕ

-- so many bits of a node from a place up, each read alone
abbrev pub bits_up : (node low count : ℕ) → List (List Bit)
bits_up node low zero = []
bits_up node low (suc k) = ((node, low) ∷ []) ∷ bits_up node (suc low) k

-- place by place
abbrev pub both : List (List Bit) → List (List Bit) → List (List Bit)
both [] bs = []
both (a ∷ rest) [] = []
both (a ∷ rest) (b ∷ bs) = (a ++ b) ∷ both rest bs

-- what two operands read together: the first of `&` stands highest
abbrev pub both_by : Op → List (List Bit) → List (List Bit) → List (List Bit)
both_by Cat a b = b ++ a
both_by _ a b = both a b

abbrev mutual
  -- the bits of nodes of these widths that each bit of an expression reads, from the lowest place up
  pub reads : (widths : List ℕ) → Tree → List (List Bit)
  reads ws (name n) = bits_up n 0 (slice_index ws n)
  reads ws (part n high low) = bits_up n low (high + 1 - low)
  reads ws (bits w) = map (λ b. []) w
  reads ws (port n) = []
  reads ws (inverse t) = reads ws t
  reads ws (chain op ts) = chain_reads ws op ts

  pub chain_reads : (widths : List ℕ) → Op → Trees → List (List Bit)
  chain_reads ws op none = []
  chain_reads ws op (more t ts) = reads_on ws op (reads ws t) ts

  pub reads_on : (widths : List ℕ) → Op → List (List Bit) → Trees → List (List Bit)
  reads_on ws op bs none = bs
  reads_on ws op bs (more t ts) = reads_on ws op (both_by op bs (reads ws t)) ts

-- so many bits a lookup table of a device reads
abbrev pub table_inputs : ℕ
table_inputs = 6

-- all these bits are among six
pub record AreFew (read : List Bit) : Type 0 where
  pub among : List Bit
  pub six : length among ≤ table_inputs
  pub all : All (Contains among) read

-- Logic over nodes of these widths: no operator adds, at most two chains stand one in the other, and each bit reads at most six.
pub record IsLogic (ws : List ℕ) (e : Tree) : Type 0 where
  pub bitwise : IsTrue (is_bitwise e)
  pub shallow : levels e ≤ 2
  pub few : All AreFew (reads ws e)

-- What the class of an expression's cells says of it. Choices, tables and registers are made of no expression.
abbrev pub IsOfClass : (widths : List ℕ) → Class → Tree → Type 0
IsOfClass ws class.Wire e = IsTrue (is_wire e)
IsOfClass ws class.Logic e = IsLogic ws e
IsOfClass ws class.Add e = IsTrue (is_sum e)
IsOfClass ws _ e = ⊥

-- the majority of three bits is two chains deep, and its bit reads three bits
abbrev majority : Tree
majority =
    chain Or (more (chain And (more (name 0) (more (name 1) none))) (more (chain And (more (name 0) (more (name 2) none)))
    (more (chain And (more (name 1) (more (name 2) none))) none)))

majority_levels : levels majority ≡ 2
majority_levels = refl

majority_reads : reads (1 ∷ 1 ∷ 1 ∷ []) majority ≡ ((0, 0) ∷ (1, 0) ∷ (0, 0) ∷ (2, 0) ∷ (1, 0) ∷ (2, 0) ∷ []) ∷ []
majority_reads = refl

-- two words, the first above the second, inverted: no level, and each bit reads one
abbrev inverted : Tree
inverted = inverse (chain Cat (more (name 0) (more (part 1 3 2) none)))

inverted_levels : levels inverted ≡ 0
inverted_levels = refl

inverted_reads : reads (1 ∷ 4 ∷ []) inverted ≡ ((1, 2) ∷ []) ∷ ((1, 3) ∷ []) ∷ ((0, 0) ∷ []) ∷ []
inverted_reads = refl

-- a sum of two words is no wire and no logic; a sum of three is no sum of one `+`
sum_no_wire : is_wire (chain Plus (more (name 0) (more (name 1) none))) ≡ false
sum_no_wire = refl

sum_no_logic : is_bitwise (inverse (chain Plus (more (name 0) (more (name 1) none)))) ≡ false
sum_no_logic = refl

three_no_sum : is_sum (chain Plus (more (name 0) (more (name 1) (more (name 2) none)))) ≡ false
three_no_sum = refl

-- a sum with an inverted operand is none: its operands are no wires
inverted_no_sum : is_sum (chain Plus (more (name 0) (more (inverse (name 1)) none))) ≡ false
inverted_no_sum = refl
