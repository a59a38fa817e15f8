-- What the steps of a design's drivers compute, whatever numbers are in memory before them.
use Rattle.std.specs.Prelude.{ℕ, ◌≡◌, ◌+◌, ◌<◌, ◌≤◌, All, Bool, List, length, slice_index, slice_set, Some}
use Rattle.opgen_design.specs.declared.design.Driver.{Driver}
use Rattle.opgen_design.specs.declared.design.Driver.TheVariants.{Assign, Choice, Table, Register, Output}
use Rattle.opgen_design.specs.Run.{Words, scope}
use Rattle.opgen_design.specs.declared.design.Target.{Target}
use Rattle.opgen_design.specs.declared.design.Target.TheVariants.{Signal as signal, Port as port_of}
use Rattle.opgen_design.specs.Sound.{target}
use Rattle.opgen_design.specs.Tree.{Tree}
use Rattle.opgen_design.specs.Value.{chosen, IsWidth}
use Rattle.opgen_runs.specs.Evaluate.{driver_word, settle}
use Rattle.opgen_runs.specs.Tables.{Row}
use Rattle.opgen_machine.specs.declared.step.Step.{Step}
use Rattle.opgen_machine.specs.declared.step.Spot.{Spot}
use Rattle.opgen_machine.specs.Steps.{AreFine, exec}
use Rattle.opgen_machine.specs.Programs.{AllFit, AreSpots, Gives, Holds, Spots, seen, value_over, widths_of}
use Rattle.opgen_machine.specs.Emit.{Extends, width_over}
use Rattle.opgen_machine.specs.Laid.{AreLaid, IsLaid}

-- the width of what a driver drives
abbrev pub width_at : Spots → Target → ℕ
width_at spots (signal s) = slice_index (widths_of spots.signals) s
width_at spots (port_of p) = slice_index (widths_of spots.ports) p

abbrev pub IsThere : Spots → Target → Type 0
IsThere spots (signal s) = s < length spots.signals
IsThere spots (port_of p) = p < length spots.ports

-- an expression has a width of at most 64 bits
abbrev pub HasNarrow : Spots → Tree → ℕ → Type 0
HasNarrow spots e w = (width_over spots e ≡ Some w) × (w ≤ 64)

-- the address of a table has the width of its rows' addresses, and its words have this width
abbrev pub AgreesTable : Spots → Tree → List Row → (other : List Bool) → ℕ → Type 0
AgreesTable spots on rows other w = All (λ r. HasNarrow spots on (length r.0) × (length r.1 ≡ w)) rows × (length other ≡ w) × IsWidth w
    × (w ≤ 64)

-- the expressions of a driver have the widths of what it drives, of at most 64 bits
abbrev pub Agrees : Spots → Driver → Type 0
Agrees spots (Assign to e) = HasNarrow spots e (width_at spots (signal to))
Agrees spots (Choice to on one other) = HasNarrow spots on 1 × HasNarrow spots one (width_at spots (signal to))
    × HasNarrow spots other (width_at spots (signal to))
Agrees spots (Table to on rows other) = AgreesTable spots on rows other (width_at spots (signal to))
Agrees spots (Register to e) = HasNarrow spots e (width_at spots (signal to))
Agrees spots (Output place e) = HasNarrow spots e (width_at spots (port_of place))

-- the steps after leave a function of the words at a spot
pub record Left (base : ℕ) (spots : Spots) (f : Words → List Bool) (size : ℕ) (before after : List Step) (spot : Spot) : Type 0 where
  pub extends : Extends before after
  pub fine : AreFine base after
  pub width : spot.width ≡ size
  pub gives : Gives base spots after spot f

-- the choice of two expressions by a third, over words
abbrev pub chosen_over : (on one other : Tree) → Words → List Bool
chosen_over on one other v = chosen (value_over on v) (value_over one v) (value_over other v)

-- the steps after leave a driver's word at a spot, of at most 64 bits, where its table stands among the numbers before
pub record Leaves (low base : ℕ) (spots : Spots) (k : Driver) (from size : ℕ) (before after : List Step) (spot : Spot) : Type 0 where
  pub extends : Extends before after
  pub fine : AreFine base after
  pub there : spot.place < base + length after
  pub width : spot.width ≡ size
  pub word : (m : List ℕ) → length m ≡ base → IsLaid low m k from → AllFit (exec after m) spots
      → Holds (exec after m) spot (driver_word (scope (seen (exec after m) spots)) k)

abbrev pub put_spot : Target → Spot → Spots → Spots
put_spot (signal s) x spots = record { signals = slice_set spots.signals s x; ports = spots.ports }
put_spot (port_of p) x spots = record { signals = spots.signals; ports = slice_set spots.ports p x }

-- what a driver drives has a new spot, at which the steps leave the driver's word
pub record IsPut (low base : ℕ) (k : Driver) (from : ℕ) (spots : Spots) (before after : List Step) (later : Spots) : Type 0 where
  pub spot : Spot
  pub leaves : Leaves low base spots k from (width_at spots (target k)) before after spot
  pub moved : later ≡ put_spot (target k) spot spots

-- over all numbers that fit the first spots and have the tables, the steps leave the words that the drivers settle at the spots
pub record Settles (low base : ℕ) (drivers : List Driver) (tables order : List ℕ) (first : Spots) (steps : List Step) (spots : Spots) :
    Type 0 where
  pub fine : AreFine base steps
  pub are : AreSpots (base + length steps) spots
  pub signals : widths_of spots.signals ≡ widths_of first.signals
  pub ports : widths_of spots.ports ≡ widths_of first.ports
  pub fit : (m : List ℕ) → length m ≡ base → AreLaid low m drivers tables → AllFit m first → AllFit (exec steps m) spots
  pub settled : (m : List ℕ) → length m ≡ base → AreLaid low m drivers tables → AllFit m first
      → seen (exec steps m) spots ≡ settle drivers order (seen m first)
