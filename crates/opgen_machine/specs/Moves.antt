-- The registers of a machine: their next words, and the moves that store them.
use Rattle.std.specs.Prelude.{ℕ, ◌≡◌, ◌+◌, ◌<◌, ◌≤◌, ◌^◌, All, Option, Bool, List, [], ◌∷◌, length, slice_index, slice_set}
use Rattle.opgen_num.specs.Words.{words_of}
use Rattle.opgen_design.specs.declared.design.Driver.{Driver}
use Rattle.opgen_design.specs.Run.{Words, moved}
use Rattle.opgen_design.specs.declared.design.Target.TheVariants.{Signal as signal}
use Rattle.opgen_design.specs.Tree.{Tree}
use Rattle.opgen_design.specs.Value.{word_at}
use Rattle.opgen_runs.specs.Evaluate.{hand_all_on}
use Rattle.opgen_machine.specs.declared.registers.Move.{Move}
use Rattle.opgen_machine.specs.Settles.{width_at}
use Rattle.opgen_machine.specs.declared.step.Step.{Step}
use Rattle.opgen_machine.specs.declared.step.Spot.{Spot}
use Rattle.opgen_machine.specs.Steps.{AreFine, exec}
use Rattle.opgen_machine.specs.Programs.{AllFit, Gives, Spots, seen, value_over}
use Rattle.opgen_machine.specs.Emit.{Extends}

-- what a register holds next, over the words of a cycle
abbrev pub next_over : (enable : Option ℕ) → (to : ℕ) → Tree → Words → List Bool
next_over enable to e v = moved enable v (value_over e v) (word_at v.signals to)

-- the steps after leave what a register holds next at a spot behind the numbers before the first step
pub record IsNext (base : ℕ) (spots : Spots) (enable : Option ℕ) (to : ℕ) (e : Tree) (before after : List Step) (spot : Spot) : Type 0 where
  pub extends : Extends before after
  pub fine : AreFine base after
  pub behind : base ≤ spot.place
  pub width : spot.width ≡ width_at spots (signal to)
  pub gives : Gives base spots after spot (next_over enable to e)

-- numbers moved to places, one after another
abbrev pub move_all : List Move → List ℕ → List ℕ
move_all [] m = m
move_all (x ∷ moves) m = move_all moves (slice_set m x.to (slice_index m x.from))

-- each move takes from a place from `base` up to `end`, and puts below `low`
abbrev pub AreMoves : (low base end : ℕ) → List Move → Type 0
AreMoves low base end moves = All (λ x. (x.to < low) × (base ≤ x.from) × (x.from < end)) moves

-- each number comes from and goes to a place below another
abbrev pub AreWithin : ℕ → List Move → Type 0
AreWithin n moves = All (λ x. (x.to < n) × (x.from < n)) moves

-- numbers that are the same from one place to another
abbrev pub SameFrom : (base end : ℕ) → (m k : List ℕ) → Type 0
SameFrom base end m k = (i : ℕ) → base ≤ i → i < end → slice_index m i ≡ slice_index k i

-- numbers below 2 to these widths, from the first on
abbrev pub FitFirst : (widths numbers : List ℕ) → Type 0
FitFirst widths m = (i : ℕ) → i < length widths → slice_index m i < 2 ^ slice_index widths i

-- the steps and moves leave at the registers' places what the registers of drivers hold next
pub record HandsOn (base : ℕ) (spots : Spots) (enable : Option ℕ) (widths : List ℕ) (drivers : List Driver) (before after : List Step)
    (moves : List Move) : Type 0 where
  pub extends : Extends before after
  pub fine : AreFine base after
  pub bounded : AreMoves (length widths) base (base + length after) moves
  pub fit : (m k : List ℕ) → length m ≡ base → AllFit (exec after m) spots → SameFrom base (base + length after) k (exec after m)
      → FitFirst widths k → FitFirst widths (move_all moves k)
  pub words : (m k : List ℕ) → length m ≡ base → AllFit (exec after m) spots → SameFrom base (base + length after) k (exec after m)
      → base ≤ length k
      → words_of widths (move_all moves k) ≡ hand_all_on enable drivers (seen (exec after m) spots) (words_of widths k)
