-- How the code checks the rules of sound designs: the first place of a list that breaks a rule, and the first driver of each signal
-- and port.
use Rattle.std.specs.Prelude.{ℕ, if◌then◌else◌, ◌+◌, ◌≡◌, ◌≢◌, ◌<◌, Bool, List, [], length, slice_get, slice_set, slice_index_or, Contains, Option, Some, None, IfSome, IsTrue, ◌↔◌, Result, Ok, Err}
use Rattle.opgen_design.specs.declared.design.Design.{Design}
use Rattle.opgen_design.specs.declared.design.Driver.{Driver}
use Rattle.opgen_design.specs.declared.sound.SoundFault.{SoundFault}
use Rattle.opgen_design.specs.declared.sound.SoundFault.TheVariants.{Unsound, Memory}
use Rattle.opgen_components.specs.declared.Component.{Component}
use Rattle.opgen_components.specs.Graph.{component_of}
use Rattle.opgen_design.specs.Order.{is_register}
use Rattle.opgen_design.specs.Sound.{driver_names, rule_number, target, Place, item, Needs, DependsOn, PassesAt, PortPasses, SignalPasses, DriverPasses}
use Rattle.opgen_design.specs.declared.design.Target.{Target}
use Rattle.opgen_design.specs.declared.design.Target.TheVariants.{Signal as signal, Port as port_of}
use Rattle.opgen_design.specs.declared.sound.Rule.{Rule}

-- P holds of each item of a list before a place
abbrev pub HoldsBefore : {X : Type 0} → (P : ℕ → X → Type 0) → List X → ℕ → Type 0
HoldsBefore P xs n = (i : ℕ) → i < n → IfSome (slice_get xs i) (P i)

-- the first place of a list at which P fails, if it fails at one
abbrev pub IsFirstFailing : {X : Type 0} → (P : ℕ → X → Type 0) → List X → Option ℕ → Type 0
IsFirstFailing P xs None = (i : ℕ) → IfSome (slice_get xs i) (P i)
IsFirstFailing P xs (Some n) = HoldsBefore P xs n × (n < length xs) × (IfSome (slice_get xs n) (P n) → ⊥)

-- the first place at which a rule fails
pub record FailsFirst (d : Design) (rule : Rule) (number : ℕ) : Type 0 where
  pub earlier : (p : Place) → item d p < number → PassesAt d rule p
  pub fails : (p : Place) × (item d p ≡ number) × (PassesAt d rule p → ⊥)

abbrev pub IsFaultAt : Design → Rule → SoundFault → Type 0
IsFaultAt d rule (Unsound number place) = (rule_number rule ≡ number) × FailsFirst d rule place
IsFaultAt d rule Memory = Unit {0}

-- each signal has a slot, and after those each port
abbrev pub slot : ℕ → Target → ℕ
slot count (signal s) = s
slot count (port_of p) = count + p

abbrev pub slot_of : Design → Driver → ℕ
slot_of d k = slot (length d.signals) (target k)

-- the first driver of each slot among so many drivers, if there is one
pub record AreFirstDrivers (d : Design) (count : ℕ) (firsts : List (Option ℕ)) : Type 0 where
  pub one_each : length firsts ≡ length d.signals + length d.ports
  pub found : (t j : ℕ) → slice_index_or firsts t None ≡ Some j → (k : Driver) × (slice_get d.drivers j ≡ Some k) × (slot_of d k ≡ t)
  pub least : (t j i : ℕ) (m : Driver) → slice_index_or firsts t None ≡ Some j → i < j → slice_get d.drivers i ≡ Some m → slot_of d m ≢ t
  pub missing : (t i : ℕ) (m : Driver) → slice_index_or firsts t None ≡ None → i < count → slice_get d.drivers i ≡ Some m → slot_of d m ≢ t

abbrev pub noted_at : Option ℕ → List (Option ℕ) → ℕ → ℕ → List (Option ℕ)
noted_at None firsts t i = slice_set firsts t (Some i)
noted_at (Some j) firsts t i = firsts

-- a number is noted at a slot that has none
abbrev pub noted : List (Option ℕ) → ℕ → ℕ → List (Option ℕ)
noted firsts t i = noted_at (slice_index_or firsts t None) firsts t i

-- the signals whose words of a cycle a driver's word needs
abbrev pub needs_of : Driver → List ℕ
needs_of k = if is_register k then [] else driver_names k

abbrev pub needs_if : Option Driver → List ℕ
needs_if None = []
needs_if (Some k) = needs_of k

-- no address stands twice in rows
abbrev pub DifferentAddresses : List (List Bool × List Bool) → Type 0
DifferentAddresses rows = (i j : ℕ) (r q : List Bool × List Bool) → i < j → slice_get rows i ≡ Some r → slice_get rows j ≡ Some q → r.0 ≢ q.0

abbrev pub IsRegisterIn : Option Driver → Type 0
IsRegisterIn None = ⊥
IsRegisterIn (Some k) = IsTrue (is_register k)

-- the driver of that number, if there is one, is a register
abbrev pub IsRegisterAt : Design → Option ℕ → Type 0
IsRegisterAt d None = ⊥
IsRegisterAt d (Some i) = IsRegisterIn (slice_get d.drivers i)

-- the needs of the first driver of each signal
abbrev pub needs_at : Design → Option ℕ → List ℕ
needs_at d None = []
needs_at d (Some i) = needs_if (slice_get d.drivers i)

abbrev pub AreNeeds : Design → (firsts : List (Option ℕ)) → (needs : List (List ℕ)) → Type 0
AreNeeds d firsts needs = (length needs ≡ length d.signals)
    × ((s : ℕ) → s < length d.signals → slice_index_or needs s [] ≡ needs_at d (slice_index_or firsts s None))

-- some driver drives what has that slot
abbrev pub IsDrivenAt : Design → ℕ → Type 0
IsDrivenAt d t = (k : Driver) × Contains d.drivers k × (slot_of d k ≡ t)

-- the components of the signals' needs: which signals depend on themselves, and numbers that go down along needs
pub record AreGroups (d : Design) (cs : List Component) : Type 0 where
  pub one_each : length cs ≡ length d.signals
  pub cyclic : (s : ℕ) → s < length d.signals → IsTrue (component_of cs s).cyclic ↔ DependsOn d s s
  pub smaller : (s r : ℕ) (k : Driver) → Contains d.drivers k → target k ≡ signal s → Needs r k → (DependsOn d s s → ⊥)
      → (component_of cs r).number < (component_of cs s).number

abbrev pub PortsPass : Design → Rule → Type 0
PortsPass d rule = (i : ℕ) → IfSome (slice_get d.ports i) (PortPasses d rule i)

abbrev pub SignalsPass : Design → Rule → Type 0
SignalsPass d rule = (i : ℕ) → IfSome (slice_get d.signals i) (SignalPasses d rule i)

abbrev pub DriversPass : Design → Rule → Type 0
DriversPass d rule = (i : ℕ) → IfSome (slice_get d.drivers i) (DriverPasses d rule i)

-- the fault of a rule at a place among its kind, so many places before it
abbrev pub fault_at : ℕ → ℕ → Option ℕ → Result (Unit {0}) SoundFault
fault_at rule before None = Ok tt
fault_at rule before (Some n) = Err (Unsound rule (before + n + 1))
