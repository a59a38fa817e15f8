-- Designs that only feed forward: how many cycles back their outputs look.
use Rattle.std.specs.Prelude.{ℕ, ◌+◌, ◌≡◌, ◌≤◌, Bool, List, Contains, None, Some, slice_get}
use Rattle.opgen_design.specs.declared.design.Design.{Design}
use Rattle.opgen_design.specs.declared.design.Driver.{Driver}
use Rattle.opgen_design.specs.declared.design.Driver.TheVariants.{Register}
use Rattle.opgen_design.specs.Sound.{IsSound, target, Reads}
use Rattle.opgen_design.specs.Run.{Words, RunsOn, words_at_outputs}
use Rattle.opgen_design.specs.declared.design.Target.TheVariants.{Signal as signal, Port as port_of}

-- how many registers stand between what a driver reads and what it drives
abbrev pub registers_in : Driver → ℕ
registers_in (Register to e) = 1
registers_in _ = 0

-- a number for each signal: at least that of each signal that its driver reads, for a register one more, and a register's is at least 1
pub record CountRegisters (d : Design) (rank : ℕ → ℕ) : Type 0 where
  pub reads : (s r : ℕ) (k : Driver) → Contains d.drivers k → target k ≡ signal s → Reads r k → rank r + registers_in k ≤ rank s
  pub registers : (s : ℕ) (k : Driver) → Contains d.drivers k → target k ≡ signal s → registers_in k ≤ rank s

-- no way through the registers, which move in each cycle, passes more than so many
pub record HasDepth (d : Design) (depth : ℕ) : Type 0 where
  pub no_enable : d.enable ≡ None
  pub rank : ℕ → ℕ
  pub ranks : CountRegisters d rank
  pub most : (s : ℕ) → rank s ≤ depth

-- What the outputs show looks back at most so many cycles: no way through the registers to a signal that an output reads passes more.
pub record LooksBack (d : Design) (depth : ℕ) : Type 0 where
  pub no_enable : d.enable ≡ None
  pub rank : ℕ → ℕ
  pub ranks : CountRegisters d rank
  pub shown : (p r : ℕ) (k : Driver) → Contains d.drivers k → target k ≡ port_of p → Reads r k → rank r ≤ depth

-- the inputs of so many cycles, from one on in each list, are the same
abbrev pub AgreeFrom : (cycles : ℕ) → (t u : ℕ) → (inputs others : List (List (List Bool))) → Type 0
AgreeFrom cycles t u inputs others = (i : ℕ) → i ≤ cycles → slice_get inputs (t + i) ≡ slice_get others (u + i)

-- What the outputs show in a cycle is said by the inputs of that cycle and of those before it, as many as they look back: whatever
-- words the registers hold at the start, and wherever the two cycles stand in two runs, the words at the output ports are the same.
abbrev pub OutputsDependOnDepth : Type 0
OutputsDependOnDepth = (d : Design) (depth : ℕ) → IsSound d → LooksBack d depth → (start other_start : List (List Bool))
    (inputs others : List (List (List Bool))) (vs us : List Words) → RunsOn d start inputs vs → RunsOn d other_start others us
    → (t u : ℕ) (v w : Words) → AgreeFrom depth t u inputs others
    → slice_get vs (t + depth) ≡ Some v → slice_get us (u + depth) ≡ Some w → words_at_outputs d v ≡ words_at_outputs d w
