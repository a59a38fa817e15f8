-- Which steps the translation of an expression appends, and what they compute.
use Rattle.std.specs.Prelude.{◌≡◌, ℕ, ◌+◌, ◌-◌, ◌^◌, ◌<◌, ◌≤◌, Bool, List, ◌++◌, length, slice_index, Option, Some, None}
use Rattle.opgen_design.specs.declared.expr.Op.{Op}
use Rattle.opgen_design.specs.declared.expr.Op.TheVariants.{And, Or, Xor, Cat, Plus, Minus}
use Rattle.opgen_design.specs.Run.{Words, scope}
use Rattle.opgen_design.specs.Tree.{Tree, Trees}
use Rattle.opgen_design.specs.Value.{combined, chosen, value_on, chain_value, IsWidth, width, joined, width_on, chain_width}
use Rattle.opgen_machine.specs.declared.step.Step.{Step}
use Rattle.opgen_machine.specs.declared.step.Step.TheVariants.{Both, Either, Differ, Add, Subtract, Join}
use Rattle.opgen_machine.specs.declared.step.Spot.{Spot}
use Rattle.opgen_machine.specs.Steps.{AreFine, exec}
use Rattle.opgen_machine.specs.Programs.{Gives, Spots, value_over, widths_of}

-- more steps after those before
abbrev pub Extends : (before after : List Step) → Type 0
Extends before after = (more : List Step) × (after ≡ before ++ more)

-- there is a width, of at most 64 bits
abbrev pub IsNarrow : Option ℕ → Type 0
IsNarrow None = ⊥
IsNarrow (Some w) = w ≤ 64

-- the width of an expression over the words of spots
abbrev pub width_over : Spots → Tree → Option ℕ
width_over spots t = width (widths_of spots.signals) (widths_of spots.ports) t

-- the steps after leave an expression's value at a spot
pub record Emitted (base : ℕ) (spots : Spots) (t : Tree) (before after : List Step) (spot : Spot) : Type 0 where
  pub extends : Extends before after
  pub fine : AreFine base after
  pub width : width_over spots t ≡ Some spot.width
  pub gives : Gives base spots after spot (value_over t)

-- the steps after leave two operands together at a spot, whatever the two are
pub record Combined (base : ℕ) (spots : Spots) (op : Op) (a b : Spot) (before after : List Step) (spot : Spot) : Type 0 where
  pub extends : Extends before after
  pub fine : AreFine base after
  pub width : joined op a.width b.width ≡ Some spot.width
  pub gives : (f g : Words → List Bool) → Gives base spots before a f → Gives base spots before b g
      → Gives base spots after spot (λ v. combined op (f v) (g v))

-- the steps after leave the choice of two words at a spot behind the numbers before the first step, whatever the words are
pub record Chosen (base : ℕ) (spots : Spots) (on one other : Spot) (before after : List Step) (spot : Spot) : Type 0 where
  pub extends : Extends before after
  pub fine : AreFine base after
  pub behind : base ≤ spot.place
  pub width : one.width ≡ spot.width
  pub gives : (f g h : Words → List Bool) → Gives base spots before on f → Gives base spots before one g → Gives base spots before other h
      → Gives base spots after spot (λ v. chosen (f v) (g v) (h v))

-- the steps after leave a word once more at a spot behind the numbers before the first step, whatever the word is
pub record Copied (base : ℕ) (spots : Spots) (of : Spot) (before after : List Step) (spot : Spot) : Type 0 where
  pub extends : Extends before after
  pub fine : AreFine base after
  pub behind : base ≤ spot.place
  pub width : of.width ≡ spot.width
  pub gives : (f : Words → List Bool) → Gives base spots before of f → Gives base spots after spot f

-- the steps after leave at a spot the number that stands at an address behind a place, whatever the address is
pub record Looked (base : ℕ) (on : Spot) (from size : ℕ) (before after : List Step) (spot : Spot) : Type 0 where
  pub extends : Extends before after
  pub fine : AreFine base after
  pub width : spot.width ≡ size
  pub there : spot.place < base + length after
  pub finds : (m : List ℕ) → length m ≡ base → slice_index (exec before m) on.place < 2 ^ on.width
      → slice_index (exec after m) spot.place ≡ slice_index m (from + slice_index (exec before m) on.place)

-- the step of two operands
abbrev pub step_of : Op → (a b : Spot) → Step
step_of And a b = Both a.place b.place
step_of Or a b = Either a.place b.place
step_of Xor a b = Differ a.place b.place
step_of Cat a b = Join a.place b.place b.width
step_of Plus a b = Add a.place b.place (2 ^ a.width - 1)
step_of Minus a b = Subtract a.place b.place (2 ^ a.width - 1)

abbrev pub width_of : Op → (a b : ℕ) → ℕ
width_of Cat a b = a + b
width_of _ a b = a

-- the steps after leave a chain's operands so far together at a spot, and some operands are left
pub record Chained (base : ℕ) (spots : Spots) (op : Op) (all : Trees) (before after : List Step) (spot : Spot) (left : Trees) : Type 0 where
  pub extends : Extends before after
  pub fine : AreFine base after
  pub is_width : IsWidth spot.width
  pub width : width_on (widths_of spots.signals) (widths_of spots.ports) op spot.width left ≡ chain_width (widths_of spots.signals)
      (widths_of spots.ports) op all
  pub so_far : Words → List Bool
  pub gives : Gives base spots after spot so_far
  pub rest : (v : Words) → value_on (scope v) op (so_far v) left ≡ chain_value (scope v) op all
