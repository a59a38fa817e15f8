-- How many adders the canonical signed digits of numbers need, each number apart.
use Rattle.std.specs.Prelude.{◌≡◌, ℕ, ◌-◌, ◌≤◌, ℤ, pos, List, length, sum_by}
use Rattle.opgen_csd.specs.Digits.{IsCanonical, value_of, nonzeros}
use Rattle.opgen_csd.proofs.Existence.{some_form}
use Rattle.opgen_graph.specs.declared.ranks.Adder.{Adder}
use Rattle.opgen_graph.specs.Targets.{AreTargetsOf}

-- the canonical form of a number has so many digits that are not zero
pub record HasDigits (n count : ℕ) : Type 0 where
  pub form : List ℤ
  pub canonical : IsCanonical form
  pub value : value_of form ≡ pos n
  pub nonzero : nonzeros form ≡ count

-- how many digits of the canonical form of a number are not zero
unfoldable pub digit_count : ℕ → ℕ
digit_count n = nonzeros (some_form (pos n)).0

-- the canonical form of each number
abbrev pub AreForms : (ℕ → List ℤ) → Type 0
AreForms form = (n : ℕ) → IsCanonical (form n) × (value_of (form n) ≡ pos n)

-- an adder for each digit that is not zero but the first
abbrev pub digit_adders : (form : ℕ → List ℤ) → (parts : List ℕ) → ℕ
digit_adders form parts = sum_by (λ n. nonzeros (form n) - 1) parts

-- no more adders than the digits of the different odd parts of the numbers need
pub record IsWithinDigits (numbers : List ℤ) (adders : List Adder) : Type 0 where
  pub parts : List ℕ
  pub are_parts : AreTargetsOf numbers parts
  pub few : (form : ℕ → List ℤ) → AreForms form → length adders ≤ digit_adders form parts
