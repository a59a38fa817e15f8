-- The targets that the program is given, and the one that a specification asks for.
use Rattle.std.specs.Prelude.{ℕ, ◌≡◌, Bool, true, List, [], ◌∷◌, find, map, Option, Some, IsTrue}
use Rattle.std.specs.Str.{bytes_eq}
use Rattle.opgen_operator.specs.declared.spec.DelayLine.{DelayLine}
use Rattle.opgen_operator.specs.declared.spec.Spec.{Spec}
use Rattle.opgen_target.specs.Delays.{Delays, with_line}

-- a target as it was handed in: its name, its table of delays, and whether the table can be changed
pub record Device : Type 0 where
  pub name : List ℕ
  pub delays : Delays
  pub adjustable : Bool

-- targets in order, each with the name, the table and the mark that it has
abbrev pub devices_of : {Target : Type 0} → (name : Target → List ℕ) → (delays : Target → Delays) → (adjustable : Target → Bool)
    → List Target → List Device
devices_of name delays adjustable targets = map (λ t. record { name = name t; delays = delays t; adjustable = adjustable t }) targets

-- the first of a name
abbrev pub first_of_name : (name : List ℕ) → List Device → Option Device
first_of_name name devices = find (λ d. bytes_eq d.name name) devices

-- delay lines ask for a table that can be changed; where there is none, each table serves
abbrev pub takes_lines : (adjustable : Bool) → List DelayLine → Bool
takes_lines adjustable [] = true
takes_lines adjustable (line ∷ lines) = adjustable

-- a table after delay lines, in their order
abbrev pub tuned : Delays → List DelayLine → Delays
tuned delays [] = delays
tuned delays (line ∷ lines) = tuned (with_line line.class line.base line.per_bit delays) lines

-- the table that a specification is built for: that of the first target of its name, after its delay lines
pub record IsTableOf (spec : Spec) (devices : List Device) (table : Delays) : Type 0 where
  pub device : Device
  pub is_chosen : first_of_name spec.target devices ≡ Some device
  pub takes : IsTrue (takes_lines device.adjustable spec.delays)
  pub is_tuned : table ≡ tuned device.delays spec.delays
