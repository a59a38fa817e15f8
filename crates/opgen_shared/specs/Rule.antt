-- The rule of a graph of adders, which leaves one graph (after Bull and Horrocks; de Dinechin and Kumm, Application-Specific
-- Arithmetic).
use Rattle.std.specs.Prelude.{◌≡◌, ◌⊎◌, ◌↔◌, ℕ, ◌+◌, ◌-◌, ◌==◌, ◌≤◌, ◌<◌, max, ℤ, List, [], ◌∷◌, ◌++◌, All, Contains, if◌then◌else◌}
use Rattle.std.specs.declared.cmp.Ordering.TheVariants.{Less}
use Rattle.std.specs.Ordering.{nat_cmp}
use Rattle.std.specs.Cmp.Lexicographic.{slice_cmp}
use Rattle.opgen_num.specs.declared.limits.TheConstants.{MAX_CONSTANT}
use Rattle.opgen_graph.specs.declared.ranks.Adder.{Adder}
use Rattle.opgen_graph.specs.declared.ranks.Graph.{Graph}
use Rattle.opgen_graph.specs.Adders.{Makes, place}
use Rattle.opgen_graph.specs.Reach.{IsWide}
use Rattle.opgen_graph.specs.Served.{Serves}
use Rattle.opgen_graph.specs.SetCost.{bit_length}
use Rattle.opgen_graph.specs.Targets.{AreTargetsOf, IsTargetOf}
use Rattle.opgen_ports.specs.Ranges.{IsWithin}
use Rattle.opgen_shared.specs.Digits.{digit_count}
use Rattle.opgen_shared.specs.Levels.{level}
use Rattle.opgen_shared.specs.Shared.{IsSharedGraph}
use Rattle.opgen_shared.specs.Sums.{placed_by}

-- a number that stands weighs 1, and another one as many as its signed digits
unfoldable pub weight : (done : List Adder) → ℕ → ℕ
weight done x = if level done x == 0 then digit_count x else 1

-- the weight of the heavier operand
abbrev pub heavier : (done : List Adder) → Adder → ℕ
heavier done a = max (weight done a.u) (weight done a.v)

-- the level of the higher operand, if one that does not stand yet becomes a tree of its digits
abbrev pub higher : (done : List Adder) → Adder → ℕ
higher done a = max (max (level done a.u) (level done a.v)) (1 + bit_length (heavier done a - 1))

-- ---- the steps to a number
-- an adder of two odd numbers, u shifted to the left: its form is A, B or C
pub record IsShiftedLeft (a : Adder) : Type 0 where
  pub u : IsWide a.u
  pub v : IsWide a.v
  pub form : place a.step.form ≤ 2
  pub shifted : 1 ≤ a.step.shift
  pub makes : Makes a.step.form a.step.shift a.u a.v a.value

-- an adder of the number, with an operand that stands and another one that weighs less than the number
pub record IsStepTo (done : List Adder) (number : ℕ) (a : Adder) : Type 0 where
  pub value : a.value ≡ number
  pub adder : IsShiftedLeft a
  pub stands : Contains (placed_by done) a.u ⊎ Contains (placed_by done) a.v
  pub lighter : heavier done a < digit_count number

-- ---- the best of them
-- first how far its operands are above level 2, then their weight, their level, and the adder itself
unfoldable pub rank : (done : List Adder) → Adder → List ℕ
rank done a = (higher done a - 2) ∷ heavier done a ∷ higher done a ∷ a.u ∷ a.v ∷ a.step.shift ∷ place a.step.form ∷ []

abbrev pub IsRankedBefore : (rank other : List ℕ) → Type 0
IsRankedBefore rank other = slice_cmp nat_cmp rank other ≡ Less

abbrev pub IsBefore : (done : List Adder) → (a b : Adder) → Type 0
IsBefore done a b = IsRankedBefore (rank done a) (rank done b)

-- the step that no other one comes before
pub record IsBest (done : List Adder) (number : ℕ) (a : Adder) : Type 0 where
  pub step : IsStepTo done number a
  pub least : (b : Adder) → IsStepTo done number b → IsBefore done b a → ⊥

-- ---- the graph
-- a number that stands changes nothing; another one is made by its best step, once both operands stand
pub data Grows : (done : List Adder) → (number : ℕ) → (after : List Adder) → Type 0 where
  stands : {done : List Adder} {number : ℕ} → Contains (placed_by done) number → Grows done number done
  made : {done first both : List Adder} {number : ℕ} (a : Adder) → (Contains (placed_by done) number → ⊥) → IsBest done number a →
      Grows done a.u first → Grows first a.v both → Grows done number (both ++ a ∷ [])

-- one number after the other
pub data GrowsBy : (done : List Adder) → (numbers : List ℕ) → (after : List Adder) → Type 0 where
  over : {done : List Adder} → GrowsBy done [] done
  next : {done first after : List Adder} {number : ℕ} {numbers : List ℕ} → Grows done number first →
      GrowsBy first numbers after → GrowsBy done (number ∷ numbers) after

-- from 1 on, by the odd parts above 1 of the numbers, increasing, each once
pub record IsRuleGraph (numbers : List ℤ) (adders : List Adder) : Type 0 where
  pub parts : List ℕ
  pub are_parts : AreTargetsOf numbers parts
  pub grows : GrowsBy [] parts adders

-- ---- laws
-- that numbers of 20 bits have no graph by the rule is impossible
abbrev pub SomeRuleGraph : Type 0
SomeRuleGraph = (numbers : List ℤ) → All (IsWithin MAX_CONSTANT) numbers → ((adders : List Adder) → IsRuleGraph numbers adders → ⊥) → ⊥

-- each one is a shared graph, and has the odd parts above 1 of the numbers
abbrev pub RuleGraphServes : Type 0
RuleGraphServes = (numbers : List ℤ) (graph : Graph) → All (IsWithin MAX_CONSTANT) numbers → IsRuleGraph numbers graph.adders
    → IsSharedGraph graph.adders × Serves numbers graph

-- numbers have no two
abbrev pub OneRuleGraph : Type 0
OneRuleGraph = (numbers : List ℤ) (adders others : List Adder) → IsRuleGraph numbers adders → IsRuleGraph numbers others → adders ≡ others

-- and all numbers with the same odd parts above 1 have it
abbrev pub PartsAloneCount : Type 0
PartsAloneCount = (numbers others : List ℤ) (adders : List Adder) → ((x : ℕ) → IsTargetOf numbers x ↔ IsTargetOf others x)
    → IsRuleGraph numbers adders → IsRuleGraph others adders
