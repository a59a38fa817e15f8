-- One cycle of a design, and its runs: the equations of IEEE 1076-1993 for a settled cycle on the bits 0 and 1.
use Rattle.std.specs.Prelude.{ℕ, ◌≡◌, Option, Some, None, Bool, true, false, if◌then◌else◌, List, [], ◌∷◌, length, map, All, unwrap_or, drop, codes}
use Rattle.opgen_design.specs.declared.design.Design.{Design}
use Rattle.opgen_design.specs.declared.design.Dir.{Dir}
use Rattle.opgen_design.specs.declared.design.Dir.TheVariants.{In, Out}
use Rattle.opgen_design.specs.declared.design.Port.{Port}
use Rattle.opgen_design.specs.declared.design.Signal.{Signal}
use Rattle.opgen_design.specs.declared.design.Driver.{Driver}
use Rattle.opgen_design.specs.declared.design.Driver.TheVariants.{Assign, Choice, Table, Register, Output}
use Rattle.opgen_design.specs.Value.{word_at, Scope, value, chosen}

-- a word for each signal, and for each port
pub record Words : Type 0 where
  pub signals : List (List Bool)
  pub ports : List (List Bool)

abbrev pub scope : Words → Scope
scope v = record { names = word_at v.signals; ports = word_at v.ports }

-- the items that stand at ports of a direction, in order
abbrev pub at_ports : {X : Type 0} → (is : Dir → Bool) → List Port → List X → List X
at_ports is [] xs = []
at_ports is (p ∷ ps) [] = []
at_ports is (p ∷ ps) (x ∷ xs) = if is p.dir then x ∷ at_ports is ps xs else at_ports is ps xs

abbrev pub is_in : Dir → Bool
is_in In = true
is_in Out = false

abbrev pub is_out : Dir → Bool
is_out In = false
is_out Out = true

-- a table's word: that of a row whose address it is, or the other word where no row has that address
pub record IsTableWord (rows : List (List Bool × List Bool)) (other address word : List Bool) : Type 0 where
  pub of_row : All (λ r. r.0 ≡ address → word ≡ r.1) rows
  pub of_none : All (λ r. r.0 ≡ address → ⊥) rows → word ≡ other

-- what a register holds next: the new word where there is no enable or the enable's word is 1, and else the word that it holds
abbrev pub moved : (enable : Option ℕ) → Words → (new held : List Bool) → List Bool
moved None v new held = new
moved (Some port) v new held = chosen (word_at v.ports port) new held

-- what a driver says of a cycle: of its words, and of the words of the registers now and next
abbrev pub Meets : (enable : Option ℕ) → (now : List (List Bool)) → Words → (next : List (List Bool)) → Driver → Type 0
Meets enable now v next (Assign to e) = word_at v.signals to ≡ value (scope v) e
Meets enable now v next (Choice to on one other) = word_at v.signals to ≡ chosen (value (scope v) on) (value (scope v) one) (value (scope v) other)
Meets enable now v next (Table to on rows other) = IsTableWord rows other (value (scope v) on) (word_at v.signals to)
Meets enable now v next (Register to e) =
    (word_at v.signals to ≡ word_at now to) × (word_at next to ≡ moved enable v (value (scope v) e) (word_at now to))
Meets enable now v next (Output port e) = word_at v.ports port ≡ value (scope v) e

-- a cycle: each signal and port has a word of its width, the input ports have the words given, and each driver's equation holds
pub record Cycle (d : Design) (now given : List (List Bool)) (v : Words) (next : List (List Bool)) : Type 0 where
  pub signal_widths : map length v.signals ≡ map (λ s. s.width) d.signals
  pub port_widths : map length v.ports ≡ map (λ p. p.width) d.ports
  pub inputs : at_ports is_in d.ports v.ports ≡ given
  pub equations : All (Meets d.enable now v next) d.drivers

-- cycles in order, each register's word in one what the cycle before handed on
abbrev pub RunsOn : Design → (now : List (List Bool)) → (inputs : List (List (List Bool))) → List Words → Type 0
RunsOn d now [] [] = Unit {0}
RunsOn d now (given ∷ inputs) (v ∷ vs) = (next : List (List Bool)) × Cycle d now given v next × RunsOn d next inputs vs
RunsOn d now _ _ = ⊥

-- the word of each register in cycle 0
abbrev pub initial_words : List Signal → List (List Bool)
initial_words signals = map (λ s. unwrap_or s.initial []) signals

-- a run of a design over the inputs of its cycles
abbrev pub Run : Design → (inputs : List (List (List Bool))) → List Words → Type 0
Run d inputs vs = RunsOn d (initial_words d.signals) inputs vs

-- the words of the output ports in a cycle, in order
abbrev pub words_at_outputs : Design → Words → List (List Bool)
words_at_outputs d v = at_ports is_out d.ports v.ports

-- words of these widths, one for each
abbrev pub AreWords : List ℕ → List (List Bool) → Type 0
AreWords ws given = map length given ≡ ws

-- the widths of the input ports, in order
abbrev pub input_widths : Design → List ℕ
input_widths d = at_ports is_in d.ports (map (λ p. p.width) d.ports)

-- the widths of the output ports, in order
abbrev pub output_widths : Design → List ℕ
output_widths d = at_ports is_out d.ports (map (λ p. p.width) d.ports)

-- the design that is the same but has no enable
abbrev pub without_enable : Design → Design
without_enable d = record { name = d.name; ports = d.ports; signals = d.signals; drivers = d.drivers; enable = None }

-- the items that are marked, in their order
abbrev pub marked : {X : Type 0} → List Bool → List X → List X
marked [] xs = []
marked (m ∷ marks) [] = []
marked (true ∷ marks) (x ∷ xs) = x ∷ marked marks xs
marked (false ∷ marks) (x ∷ xs) = marked marks xs

-- the word of one bit, 1
abbrev pub is_one : List Bool → Bool
is_one (true ∷ []) = true
is_one _ = false

-- which cycles have 1 at a port
abbrev pub ones_at : ℕ → List Words → List Bool
ones_at port vs = map (λ v. is_one (word_at v.ports port)) vs

-- Of a run, whatever words the registers hold at its start, the cycles in which the enable's word is 1, in their order, are a run of the
-- design without the enable.
abbrev pub EnabledCyclesAreRuns : Type 0
EnabledCyclesAreRuns = (d : Design) (port : ℕ) (start : List (List Bool)) (inputs : List (List (List Bool))) (vs : List Words)
    → d.enable ≡ Some port → RunsOn d start inputs vs
    → RunsOn (without_enable d) start (marked (ones_at port vs) inputs) (marked (ones_at port vs) vs)

abbrev pub IsNoRegister : Driver → Type 0
IsNoRegister (Register to e) = ⊥
IsNoRegister _ = Unit {0}

-- Of a run of a design without registers, any cycles, in their order, are a run of it.
abbrev pub AnyCyclesAreRuns : Type 0
AnyCyclesAreRuns = (d : Design) (start : List (List Bool)) (inputs : List (List (List Bool))) (vs : List Words) (marks : List Bool)
    → All IsNoRegister d.drivers → RunsOn d start inputs vs → RunsOn d start (marked marks inputs) (marked marks vs)

-- the inputs before those of the operator, each a name and a width: the clock enable, where it is asked for
abbrev pub enable_inputs : Bool → List (List ℕ × ℕ)
enable_inputs true = (codes "ce", 1) ∷ []
enable_inputs false = []

-- the cycles of a run that count, in their order: where the enable was asked for, those in which its word is 1
abbrev pub counted : {X : Type 0} → (enable : Bool) → List Words → List X → List X
counted enable vs xs = if enable then marked (ones_at 0 vs) xs else xs

-- the words of the other inputs in each cycle: all but that of the enable
abbrev pub data_inputs : (enable : Bool) → List (List (List Bool)) → List (List (List Bool))
data_inputs enable inputs = if enable then map (drop 1) inputs else inputs
