-- Nets of several constants whose adder graph is searched for.
use Rattle.std.specs.Prelude.{IsTrue}
use Rattle.opgen_kinds.specs.declared.several.Several.{Several}
use Rattle.opgen_kinds.specs.Several.{IsAcceptedSeveral}
use Rattle.opgen_search.specs.Recipe.{HasNet}

-- that accepted constants, searched for, have no net by the graph of their least set, or none that fits, is impossible
abbrev pub SomeNet : Type 0
SomeNet = (several : Several) → IsAcceptedSeveral several → IsTrue several.searched → (HasNet several → ⊥) → ⊥
