-- Sound designs: ten rules, and the first port, signal or driver that breaks one.
use Rattle.std.specs.Prelude.{ℕ, ◌+◌, ◌^◌, ◌≡◌, ◌≢◌, ◌<◌, ◌⊎◌, Bool, List, [], ◌++◌, length, map, codes, All, Contains, Some, IfSome, IsSome, slice_get, slice_index, slice_index_or, ◌∷◌}
use Rattle.opgen_design.specs.declared.design.Design.{Design}
use Rattle.opgen_design.specs.declared.design.Dir.TheVariants.{In, Out}
use Rattle.opgen_design.specs.declared.design.Port.{Port}
use Rattle.opgen_design.specs.declared.design.Signal.{Signal}
use Rattle.opgen_design.specs.declared.design.Driver.{Driver}
use Rattle.opgen_design.specs.declared.design.Driver.TheVariants.{Assign, Choice, Table, Register, Output}
use Rattle.opgen_design.specs.declared.sound.SoundFault.{SoundFault}
use Rattle.opgen_design.specs.declared.sound.SoundFault.TheVariants.{Unsound, Memory}
use Rattle.opgen_design.specs.Tree.{Tree, Trees, name, part, bits, port, inverse, chain, none, more}
use Rattle.opgen_design.specs.Value.{IsWidth, width}
use Rattle.opgen_design.specs.declared.sound.Rule.{Rule}
use Rattle.opgen_design.specs.declared.sound.Rule.TheVariants.{Undeclared, DeclaredTwice, Width, DrivenTwice, NotDriven, Cyclic, ReadsOutput, NoInitial, ChoiceTwice, BadEnable}
use Rattle.opgen_design.specs.declared.design.Target.{Target}
use Rattle.opgen_design.specs.declared.design.Target.TheVariants.{Signal as signal, Port as port_of}

abbrev mutual
  -- P holds of each name that an expression reads, and Q of each port
  pub AllReads : (ℕ → Type 0) → (ℕ → Type 0) → Tree → Type 0
  AllReads P Q (name n) = P n
  AllReads P Q (part n high low) = P n
  AllReads P Q (bits w) = Unit {0}
  AllReads P Q (port n) = Q n
  AllReads P Q (inverse t) = AllReads P Q t
  AllReads P Q (chain op ts) = AllOperandsRead P Q ts

  pub AllOperandsRead : (ℕ → Type 0) → (ℕ → Type 0) → Trees → Type 0
  AllOperandsRead P Q none = Unit {0}
  AllOperandsRead P Q (more t ts) = AllReads P Q t × AllOperandsRead P Q ts

abbrev mutual
  -- an expression reads this name
  pub ReadsName : ℕ → Tree → Type 0
  ReadsName r (name n) = n ≡ r
  ReadsName r (part n high low) = n ≡ r
  ReadsName r (bits w) = ⊥
  ReadsName r (port n) = ⊥
  ReadsName r (inverse t) = ReadsName r t
  ReadsName r (chain op ts) = SomeOperandReads r ts

  pub SomeOperandReads : ℕ → Trees → Type 0
  SomeOperandReads r none = ⊥
  SomeOperandReads r (more t ts) = ReadsName r t ⊎ SomeOperandReads r ts

abbrev mutual
  -- the names that an expression reads, in order
  pub names_read : Tree → List ℕ
  names_read (name n) = n ∷ []
  names_read (part n high low) = n ∷ []
  names_read (bits w) = []
  names_read (port n) = []
  names_read (inverse t) = names_read t
  names_read (chain op ts) = operand_names ts

  pub operand_names : Trees → List ℕ
  operand_names none = []
  operand_names (more t ts) = names_read t ++ operand_names ts

abbrev mutual
  -- the ports that an expression reads, in order
  pub ports_read : Tree → List ℕ
  ports_read (name n) = []
  ports_read (part n high low) = []
  ports_read (bits w) = []
  ports_read (port n) = n ∷ []
  ports_read (inverse t) = ports_read t
  ports_read (chain op ts) = operand_ports ts

  pub operand_ports : Trees → List ℕ
  operand_ports none = []
  operand_ports (more t ts) = ports_read t ++ operand_ports ts

-- the expressions that a driver reads, in order
abbrev pub expressions_read : Driver → Trees
expressions_read (Assign to e) = more e none
expressions_read (Choice to on one other) = more on (more one (more other none))
expressions_read (Table to on rows other) = more on none
expressions_read (Register to e) = more e none
expressions_read (Output place e) = more e none

abbrev pub driver_names : Driver → List ℕ
driver_names k = operand_names (expressions_read k)

abbrev pub driver_ports : Driver → List ℕ
driver_ports k = operand_ports (expressions_read k)

-- the rules have numbers in the order in which they are tried
abbrev pub rule_number : Rule → ℕ
rule_number Undeclared = 1
rule_number DeclaredTwice = 2
rule_number Width = 3
rule_number DrivenTwice = 4
rule_number NotDriven = 5
rule_number Cyclic = 6
rule_number ReadsOutput = 7
rule_number NoInitial = 8
rule_number ChoiceTwice = 9
rule_number BadEnable = 10

-- what a driver drives
abbrev pub target : Driver → Target
target (Assign to e) = signal to
target (Choice to on one other) = signal to
target (Table to on rows other) = signal to
target (Register to e) = signal to
target (Output place e) = port_of place

-- P holds of each signal that a driver reads, and Q of each port
abbrev pub DriverReads : (ℕ → Type 0) → (ℕ → Type 0) → Driver → Type 0
DriverReads P Q k = AllOperandsRead P Q (expressions_read k)

-- a driver reads a signal, in this cycle or, as a register, for the next one
abbrev pub Reads : ℕ → Driver → Type 0
Reads r k = SomeOperandReads r (expressions_read k)

-- a driver's word of a cycle needs a signal's word of that cycle; a register's needs none
abbrev pub Needs : ℕ → Driver → Type 0
Needs r (Register to e) = ⊥
Needs r k = Reads r k

-- rule 1: each number in a driver names a signal or a port, and the enable names a port
abbrev pub Names : Design → Target → Type 0
Names d (signal s) = s < length d.signals
Names d (port_of p) = p < length d.ports

pub record IsDeclared (d : Design) (k : Driver) : Type 0 where
  pub target : Names d (target k)
  pub reads : DriverReads (λ s. s < length d.signals) (λ p. p < length d.ports) k

abbrev pub IsEnableDeclared : Design → Type 0
IsEnableDeclared d = IfSome d.enable (λ p. p < length d.ports)

-- rule 2: a name is not `clk`, and stands nowhere before
abbrev pub names_of : Design → List (List ℕ)
names_of d = map (λ p. p.name) d.ports ++ map (λ s. s.name) d.signals

pub record IsNewName (names : List (List ℕ)) (i : ℕ) : Type 0 where
  pub not_clock : slice_index_or names i [] ≢ codes "clk"
  pub not_before : (j : ℕ) → j < i → slice_index_or names j [] ≢ slice_index_or names i []

-- rule 3: widths are those of signals, and the two sides of each equation agree
abbrev pub signal_widths : Design → List ℕ
signal_widths d = map (λ s. s.width) d.signals

abbrev pub port_widths : Design → List ℕ
port_widths d = map (λ p. p.width) d.ports

abbrev pub HasWidth : Design → Tree → ℕ → Type 0
HasWidth d e w = width (signal_widths d) (port_widths d) e ≡ Some w

abbrev pub WidthsAgree : Design → Driver → Type 0
WidthsAgree d (Assign to e) = HasWidth d e (slice_index (signal_widths d) to)
WidthsAgree d (Choice to on one other) =
    HasWidth d on 1 × HasWidth d one (slice_index (signal_widths d) to) × HasWidth d other (slice_index (signal_widths d) to)
WidthsAgree d (Table to on rows other) =
    All (λ r. HasWidth d on (length r.0) × (length r.1 ≡ slice_index (signal_widths d) to)) rows
    × IsSome (width (signal_widths d) (port_widths d) on) × (length other ≡ slice_index (signal_widths d) to)
WidthsAgree d (Register to e) = HasWidth d e (slice_index (signal_widths d) to)
WidthsAgree d (Output place e) = HasWidth d e (slice_index (port_widths d) place)

abbrev pub IsSignalWide : Signal → Type 0
IsSignalWide s = IsWidth s.width × IfSome s.initial (λ w. length w ≡ s.width)

-- rule 4: no earlier driver drives the same, and no input port is driven
abbrev pub IsInput : Design → Target → Type 0
IsInput d (signal s) = ⊥
IsInput d (port_of p) = (q : Port) × (slice_get d.ports p ≡ Some q) × (q.dir ≡ In)

pub record IsOnlyDriver (d : Design) (i : ℕ) (k : Driver) : Type 0 where
  pub not_before : (j : ℕ) (m : Driver) → j < i → slice_get d.drivers j ≡ Some m → target m ≢ target k
  pub no_input : IsInput d (target k) → ⊥

-- rule 5: there is a driver
abbrev pub IsDriven : Design → Target → Type 0
IsDriven d t = (k : Driver) × Contains d.drivers k × (target k ≡ t)

-- rule 6: no signal depends on itself without a register between
pub data DependsOn (d : Design) : ℕ → ℕ → Type 0 where
  at_once : {s r : ℕ} (k : Driver) → Contains d.drivers k → target k ≡ signal s → Needs r k → DependsOn d s r
  through : {s q r : ℕ} → DependsOn d s q → DependsOn d q r → DependsOn d s r

abbrev pub IsOffCycles : Design → Driver → Type 0
IsOffCycles d k = (s : ℕ) → target k ≡ signal s → DependsOn d s s → ⊥

-- the signals can be numbered so that each driver that is no register reads only signals of smaller numbers
abbrev pub IsOrderedBy : (number : ℕ → ℕ) → List Driver → Type 0
IsOrderedBy number drivers = (s r : ℕ) (k : Driver) → Contains drivers k → target k ≡ signal s → Needs r k → number r < number s

abbrev pub IsOrdered : Design → Type 0
IsOrdered d = (number : ℕ → ℕ) × IsOrderedBy number d.drivers

-- rule 7: an output port is not read
abbrev pub ReadsInputs : Design → Driver → Type 0
ReadsInputs d k = DriverReads (λ s. Unit {0}) (λ p. IfSome (slice_get d.ports p) (λ q. q.dir ≡ In)) k

-- rule 8: a signal that a register drives has an initial value
abbrev pub IsRegisterOf : ℕ → Driver → Type 0
IsRegisterOf s (Register to e) = to ≡ s
IsRegisterOf s _ = ⊥

abbrev pub HasInitial : Design → ℕ → Signal → Type 0
HasInitial d i s = (k : Driver) → Contains d.drivers k → IsRegisterOf i k → IsSome s.initial

-- rule 9: no address stands twice in a table
abbrev pub AddressesDiffer : Driver → Type 0
AddressesDiffer (Table to on rows other) =
    (i j : ℕ) (r q : List Bool × List Bool) → i < j → slice_get rows i ≡ Some r → slice_get rows j ≡ Some q → r.0 ≢ q.0
AddressesDiffer _ = Unit {0}

-- rule 10: the enable is an input port of one bit
abbrev pub IsFitForEnable : Design → ℕ → Port → Type 0
IsFitForEnable d i p = d.enable ≡ Some i → (p.dir ≡ In) × (p.width ≡ 1)

-- a place where a rule may fail: the design as a whole, or a port, signal or driver by its number in its list
pub data Place : Type 0 where
  at_design : Place
  at_port at_signal at_driver : ℕ → Place

-- the number of a place: 0 of the whole, and from 1 on ports, then signals, then drivers
abbrev pub item : Design → Place → ℕ
item d at_design = 0
item d (at_port i) = i + 1
item d (at_signal i) = length d.ports + i + 1
item d (at_driver i) = length d.ports + length d.signals + i + 1

-- its places have numbers of 32 bits
abbrev pub HasNumbers : Design → Type 0
HasNumbers d = length d.ports + length d.signals + length d.drivers < 2 ^ 32

abbrev pub DesignPasses : Design → Rule → Type 0
DesignPasses d Undeclared = IsEnableDeclared d
DesignPasses d _ = Unit {0}

abbrev pub PortPasses : Design → Rule → ℕ → Port → Type 0
PortPasses d DeclaredTwice i p = IsNewName (names_of d) i
PortPasses d Width i p = IsWidth p.width
PortPasses d NotDriven i p = p.dir ≡ Out → IsDriven d (port_of i)
PortPasses d BadEnable i p = IsFitForEnable d i p
PortPasses d _ i p = Unit {0}

abbrev pub SignalPasses : Design → Rule → ℕ → Signal → Type 0
SignalPasses d DeclaredTwice i s = IsNewName (names_of d) (length d.ports + i)
SignalPasses d Width i s = IsSignalWide s
SignalPasses d NotDriven i s = IsDriven d (signal i)
SignalPasses d NoInitial i s = HasInitial d i s
SignalPasses d _ i s = Unit {0}

abbrev pub DriverPasses : Design → Rule → ℕ → Driver → Type 0
DriverPasses d Undeclared i k = IsDeclared d k
DriverPasses d Width i k = WidthsAgree d k
DriverPasses d DrivenTwice i k = IsOnlyDriver d i k
DriverPasses d Cyclic i k = IsOffCycles d k
DriverPasses d ReadsOutput i k = ReadsInputs d k
DriverPasses d ChoiceTwice i k = AddressesDiffer k
DriverPasses d _ i k = Unit {0}

-- a rule does not fail at a place
abbrev pub PassesAt : Design → Rule → Place → Type 0
PassesAt d rule at_design = DesignPasses d rule
PassesAt d rule (at_port i) = IfSome (slice_get d.ports i) (PortPasses d rule i)
PassesAt d rule (at_signal i) = IfSome (slice_get d.signals i) (SignalPasses d rule i)
PassesAt d rule (at_driver i) = IfSome (slice_get d.drivers i) (DriverPasses d rule i)

-- a rule fails nowhere
abbrev pub Holds : Design → Rule → Type 0
Holds d rule = (place : Place) → PassesAt d rule place

pub record IsSound (d : Design) : Type 0 where
  pub declared : Holds d Undeclared
  pub declared_once : Holds d DeclaredTwice
  pub widths : Holds d Width
  pub driven_once : Holds d DrivenTwice
  pub driven : Holds d NotDriven
  pub ordered : IsOrdered d
  pub reads_inputs : Holds d ReadsOutput
  pub initials : Holds d NoInitial
  pub addresses : Holds d ChoiceTwice
  pub enable : Holds d BadEnable

-- the first rule that fails, and the number of the first place at which it does
pub record IsFirstUnsound (d : Design) (rule : Rule) (number : ℕ) : Type 0 where
  pub earlier_rules : (r : Rule) → rule_number r < rule_number rule → Holds d r
  pub earlier_places : (p : Place) → item d p < number → PassesAt d rule p
  pub fails : (p : Place) × (item d p ≡ number) × (PassesAt d rule p → ⊥)

-- a fault of a design names its first rule that fails, by number, and the first place; running out of memory says nothing
abbrev pub IsFaultOf : Design → SoundFault → Type 0
IsFaultOf d (Unsound rule place) = (r : Rule) × (rule_number r ≡ rule) × IsFirstUnsound d r place
IsFaultOf d Memory = Unit {0}
