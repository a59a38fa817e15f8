use Rattle.std.proofs.Common.{◌≡◌, ◌++◌, drop}
use Rattle.opgen_pieces.specs.Recipe.{passed_bits}
use Rattle.opgen_pieces.proofs.pieces.push_passed.Given as goal

-- the bits of the places that are left come last
abbrev pub invariant-places : goal.invariant-places
invariant-places l =
    l.bits ++ passed_bits (drop l.place l.first) (drop l.place l.second)
    ≡ l.initial.bits ++ passed_bits (drop l.left l.first) (drop l.left l.second)
