-- Steps to a number while they are compared: one operand stands already, and the other is the rest, which may have to be made.
use Rattle.std.specs.Prelude.{◌≡◌, ◌≢◌, ◌⊎◌, ℕ, ◌-◌, ◌*◌, ◌<◌, ◌≤◌, ◌^◌, List, Contains}
use Rattle.opgen_graph.specs.declared.forms.Form.TheVariants.{B, C}
use Rattle.opgen_graph.specs.declared.ranks.Adder.{Adder}
use Rattle.opgen_graph.specs.Adders.{Makes, place}
use Rattle.opgen_graph.specs.Reach.{IsWide}
use Rattle.opgen_shared.specs.declared.candidates.Candidate.{Candidate}
use Rattle.opgen_shared.specs.declared.steps.Shifted.{Shifted}
use Rattle.opgen_shared.specs.Digits.{HasDigits, digit_count}
use Rattle.opgen_shared.specs.Rule.{IsStepTo, IsBefore, weight, rank}
use Rattle.opgen_shared.specs.Sums.{placed_by}

-- the number stands already, or its digits are counted
pub record Weighs (placed : List ℕ) (n weight : ℕ) : Type 0 where
  pub some : 1 ≤ weight
  pub counted : Contains placed n ⊎ HasDigits n weight

-- of the operands one is the rest, and the other one stands
abbrev pub IsRest : (placed : List ℕ) (a : Adder) (rest : ℕ) → Type 0
IsRest placed a rest = ((a.u ≡ rest) × Contains placed a.v) ⊎ ((a.v ≡ rest) × Contains placed a.u)

-- a step to a number, with its rest, the weight of that, and its rank
pub record IsCandidate (done : List Adder) (number : ℕ) (c : Candidate) : Type 0 where
  pub step : IsStepTo done number c.adder
  pub rest : IsRest (placed_by done) c.adder c.rest
  pub weight : c.weight ≡ weight done c.rest
  pub ranked : c.rank ≡ rank done c.adder

-- the adder of the lowest digit of a number, of 1 and a number with a digit less
pub record IsDigitAdder (number : ℕ) (a : Adder) : Type 0 where
  pub value : a.value ≡ number
  pub wide : IsWide a.u
  pub one : a.v ≡ 1
  pub form : place a.step.form ≤ 2
  pub shifted : 1 ≤ a.step.shift
  pub makes : Makes a.step.form a.step.shift a.u a.v a.value
  pub fewer : (count : ℕ) → HasDigits number count → (1 < count) × HasDigits a.u (count - 1)

-- a number times a power of two
pub record IsShifted (by : Shifted) : Type 0 where
  pub wide : IsWide by.operand
  pub shifted : 1 ≤ by.shift
  pub product : by.size ≡ 2 ^ by.shift * by.operand
  pub small : by.size < 2 ^ 22

-- ---- what a candidate was compared with
abbrev pub IsNotAfter : (done : List Adder) → (a b : Adder) → Type 0
IsNotAfter done a b = IsBefore done b a → ⊥

-- no step of this kind comes before the candidate
abbrev pub IsLeastOf : (done : List Adder) (number : ℕ) (Kind : Adder → Type 0) → Candidate → Type 0
IsLeastOf done number Kind c = (a : Adder) → IsStepTo done number a → Kind a → IsNotAfter done c.adder a

abbrev pub IsDistanceTo : (operand : ℕ) → Adder → Type 0
IsDistanceTo operand a = (a.v ≡ operand) × (a.step.form ≢ B)

abbrev pub IsSumWith : (operand : ℕ) → Adder → Type 0
IsSumWith operand a = (a.v ≡ operand) × (a.step.form ≡ B)

abbrev pub IsShiftedDistance : Shifted → Adder → Type 0
IsShiftedDistance by a = (a.u ≡ by.operand) × (a.step.shift ≡ by.shift) × (a.step.form ≢ C)

abbrev pub IsShiftedSum : Shifted → Adder → Type 0
IsShiftedSum by a = (a.u ≡ by.operand) × (a.step.shift ≡ by.shift) × (a.step.form ≡ C)

abbrev pub HasOperand : (operand : ℕ) → Adder → Type 0
HasOperand operand a = (a.u ≡ operand) ⊎ (a.v ≡ operand)

-- ---- what a number adds to the graph
-- new numbers that have no more digits than a weight
abbrev pub AreLight : (done : List Adder) (weight : ℕ) (after : List Adder) → Type 0
AreLight done weight after = (x : ℕ) → Contains (placed_by after) x → Contains (placed_by done) x ⊎ (digit_count x ≤ weight)
