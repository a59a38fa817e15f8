-- A sum of products has only one net.
use Rattle.std.specs.Prelude.{◌≡◌}
use Rattle.opgen_net.specs.declared.net.Net.{Net}
use Rattle.opgen_terms.specs.declared.sop.Sop.{Sop}
use Rattle.opgen_sop.specs.Recipe.{IsNetOfSop}

abbrev pub HasOneNetOfSop : Type 0
HasOneNetOfSop = (s : Sop) (x y : Net) → IsNetOfSop s x → IsNetOfSop s y → x ≡ y
