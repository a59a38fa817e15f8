-- The names of a net's ports: a design of a net that fits a specification can have each name that is allowed.
use Rattle.std.specs.Prelude.{ℕ, IsTrue, List}
use Rattle.opgen_names.specs.Names.{is_allowed_name}
use Rattle.opgen_net.specs.declared.net.Net.{Net}
use Rattle.opgen_net.specs.Named.{IsNamed}
use Rattle.opgen_operator.specs.declared.spec.Spec.{Spec}
use Rattle.opgen_operator.specs.Fits.{FitsSpec}
use Rattle.opgen_operator.specs.GivenNames.{AreGivenNames}
use Rattle.opgen_operator.specs.Operator.{IsOperator, given_names}

-- The net's ports have the operator's names, which are allowed and differ from each other.
abbrev pub FittingNetsAreNamed : Type 0
FittingNetsAreNamed = (spec : Spec) (net : Net) → IsOperator spec.op → AreGivenNames spec.name (given_names spec.op) → FitsSpec spec net
    → (name : List ℕ) → IsTrue (is_allowed_name name) → IsNamed name net
