-- What a list of steps computes for a design, whatever numbers are in memory before it.
use Rattle.std.specs.Prelude.{◌≡◌, ℕ, ◌+◌, ◌^◌, ◌<◌, ◌≤◌, All, Bool, List, length, map, slice_index}
use Rattle.opgen_num.specs.Words.{nat, word}
use Rattle.opgen_design.specs.Run.{Words, scope}
use Rattle.opgen_design.specs.Tree.{Tree}
use Rattle.opgen_design.specs.Value.{value}
use Rattle.opgen_machine.specs.Steps.{exec}
use Rattle.opgen_machine.specs.declared.step.Step.{Step}
use Rattle.opgen_machine.specs.declared.step.Spot.{Spot}

-- a spot for each signal, and for each port
pub record Spots : Type 0 where
  pub signals : List Spot
  pub ports : List Spot

-- the word of a spot, and those of the signals and ports
abbrev pub word_of : List ℕ → Spot → List Bool
word_of m s = word s.width (slice_index m s.place)

abbrev pub seen : List ℕ → Spots → Words
seen m spots = record { signals = map (word_of m) spots.signals; ports = map (word_of m) spots.ports }

abbrev pub widths_of : List Spot → List ℕ
widths_of spots = map (λ s. s.width) spots

-- the number at each spot is below 2 to its width
abbrev pub Fit : List ℕ → List Spot → Type 0
Fit m spots = All (λ s. slice_index m s.place < 2 ^ s.width) spots

abbrev pub AllFit : List ℕ → Spots → Type 0
AllFit m spots = Fit m spots.signals × Fit m spots.ports

-- spots below a place, of words of 64 bits or less
abbrev pub AreBelow : ℕ → List Spot → Type 0
AreBelow n spots = All (λ s. (s.place < n) × (s.width ≤ 64)) spots

abbrev pub AreSpots : ℕ → Spots → Type 0
AreSpots n spots = AreBelow n spots.signals × AreBelow n spots.ports

-- something holds of whatever spots stand below a place
abbrev pub ForSpots : ℕ → (Spots → Type 0) → Type 0
ForSpots n holds = (spots : Spots) → AreSpots n spots → holds spots

-- a word stands at a spot
pub record Holds (m : List ℕ) (spot : Spot) (v : List Bool) : Type 0 where
  pub number : slice_index m spot.place ≡ nat v
  pub width : length v ≡ spot.width

-- the steps leave at a spot what f says of the words of the signals and ports, as they stand after the steps
pub record Gives (base : ℕ) (spots : Spots) (steps : List Step) (spot : Spot) (f : Words → List Bool) : Type 0 where
  pub there : spot.place < base + length steps
  pub word : (m : List ℕ) → length m ≡ base → AllFit (exec steps m) spots → Holds (exec steps m) spot (f (seen (exec steps m) spots))

-- the value of an expression over words
abbrev pub value_over : Tree → Words → List Bool
value_over t v = value (scope v) t
