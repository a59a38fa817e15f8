-- Aligned designs, whose outputs show one row of inputs each: all ways from an input to an output pass the same number of registers.
use Rattle.std.specs.Prelude.{ℕ, ◌+◌, ◌≡◌, Bool, false, List, [], ◌∷◌, Option, Some, None, Contains, slice_get, codes}
use Rattle.opgen_design.specs.declared.design.Design.{Design}
use Rattle.opgen_design.specs.declared.design.Dir.TheVariants.{In, Out}
use Rattle.opgen_design.specs.declared.design.Driver.{Driver}
use Rattle.opgen_design.specs.declared.design.Driver.TheVariants.{Register, Output}
use Rattle.opgen_design.specs.declared.design.Target.TheVariants.{Signal as signal, Port as port_of}
use Rattle.opgen_design.specs.declared.expr.Op.TheVariants.{Xor}
use Rattle.opgen_design.specs.Depth.{LooksBack, registers_in}
use Rattle.opgen_design.specs.Run.{Words, RunsOn, words_at_outputs}
use Rattle.opgen_design.specs.Sound.{IsSound, Reads, driver_ports, target}
use Rattle.opgen_design.specs.Tree.{Tree, name, port, chain, none, more}

-- a way from an input to a signal, which passes so many registers
pub data Way (d : Design) : (signal registers : ℕ) → Type 0 where
  from_port : (s p : ℕ) (k : Driver) → Contains d.drivers k → target k ≡ signal s → Contains (driver_ports k) p → Way d s (registers_in k)
  further : (s r n : ℕ) (k : Driver) → Contains d.drivers k → target k ≡ signal s → Reads r k → Way d r n → Way d s (n + registers_in k)

-- Every way from an input to an output passes exactly so many registers. That no way passes more would not be enough: an output that
-- reads an input and a register of it mixes two rows.
pub record IsAligned (d : Design) (latency : ℕ) : Type 0 where
  pub through : (p r n : ℕ) (k : Driver) → Contains d.drivers k → target k ≡ port_of p → Reads r k → Way d r n → n ≡ latency
  pub direct : (p q : ℕ) (k : Driver) → Contains d.drivers k → target k ≡ port_of p → Contains (driver_ports k) q → latency ≡ 0

-- A place for each signal that an input reaches, by which a design is seen to be aligned: what reads an input has as its place how many
-- registers it has itself, and what reads a signal with a place has that place and its own registers more. An output reads signals with
-- the latency as their place, or without one, and an input only where the latency is 0.
pub record HasPlaces (d : Design) (latency : ℕ) : Type 0 where
  pub place : ℕ → Option ℕ
  pub first : (s p : ℕ) (k : Driver) → Contains d.drivers k → target k ≡ signal s → Contains (driver_ports k) p
      → place s ≡ Some (registers_in k)
  pub next : (s r n : ℕ) (k : Driver) → Contains d.drivers k → target k ≡ signal s → Reads r k → place r ≡ Some n
      → place s ≡ Some (n + registers_in k)
  pub shown : (p r n : ℕ) (k : Driver) → Contains d.drivers k → target k ≡ port_of p → Reads r k → place r ≡ Some n → n ≡ latency
  pub direct : (p q : ℕ) (k : Driver) → Contains d.drivers k → target k ≡ port_of p → Contains (driver_ports k) q → latency ≡ 0

abbrev pub PlacesAlign : Type 0
PlacesAlign = (d : Design) (latency : ℕ) → HasPlaces d latency → IsAligned d latency

-- What the outputs of an aligned design show in a cycle is said by the inputs of the one cycle so many before: whatever words the
-- registers hold at the start, and wherever the two cycles stand in two runs, the words at the output ports are the same.
abbrev pub OutputsShowOneRow : Type 0
OutputsShowOneRow = (d : Design) (latency : ℕ) → IsSound d → LooksBack d latency → IsAligned d latency → (start other_start : List (List Bool))
    (inputs others : List (List (List Bool))) (vs us : List Words) → RunsOn d start inputs vs → RunsOn d other_start others us
    → (t u : ℕ) (v w : Words) → slice_get inputs t ≡ slice_get others u
    → slice_get vs (t + latency) ≡ Some v → slice_get us (u + latency) ≡ Some w → words_at_outputs d v ≡ words_at_outputs d w

-- a design of one bit: a register holds x for the next cycle, and y is an expression
abbrev pub one_register : (y : Tree) → Design
one_register y = record {
  name = codes "one";
  ports = record { name = codes "x"; dir = In; width = 1 } ∷ record { name = codes "y"; dir = Out; width = 1 } ∷ [];
  signals = record { name = codes "r"; width = 1; initial = Some (false ∷ []) } ∷ [];
  drivers = Register 0 (port 0) ∷ Output 1 y ∷ [];
  enable = None;
}

-- Where y is the register, it shows the input of the cycle before. Where y is whether the two differ, the design is not aligned.
pub record SmallDesignsAlign : Type 0 where
  pub held : IsAligned (one_register (name 0)) 1
  pub mixed : (latency : ℕ) → IsAligned (one_register (chain Xor (more (name 0) (more (port 0) none)))) latency → ⊥
