-- A name that a specification may have is an allowed name.
use Rattle.std.proofs.Common.{ℕ, Bool, true, false, List, refl}
use Rattle.std.specs.Prelude.{◌&&◌, IsTrue}
use Rattle.opgen_names.specs.Names.{is_allowed_name}
use Rattle.opgen_ports.specs.SpecName.{is_spec_name}

first_true : (a b : Bool) → IsTrue (a && b) → IsTrue a
first_true true b h = refl
first_true false b h = cc

second_true : (a b : Bool) → IsTrue (a && b) → IsTrue b
second_true true b h = h
second_true false b h = cc

pub spec_name-allowed : (name : List ℕ) → IsTrue (is_spec_name name) → IsTrue (is_allowed_name name)
spec_name-allowed name h = second_true _ _ (first_true _ _ (first_true _ _ h))
