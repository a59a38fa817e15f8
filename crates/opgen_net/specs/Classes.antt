-- The classes of cells in their fixed order.
use Rattle.std.specs.Prelude.{ℕ, Bool, nat_eq, List, [], ◌∷◌}
use Rattle.opgen_net.specs.declared.cell.Class.{Class}
use Rattle.opgen_net.specs.declared.cell.Class.TheVariants.{Wire, Logic, Add, Choice, Table, Register}

-- all classes in that order
unfoldable pub classes : List Class
classes = Wire ∷ Logic ∷ Add ∷ Choice ∷ Table ∷ Register ∷ []

-- the place of a class in that order, from 0
abbrev pub place_of : Class → ℕ
place_of Wire = 0
place_of Logic = 1
place_of Add = 2
place_of Choice = 3
place_of Table = 4
place_of Register = 5

-- whether two classes are one
abbrev pub is_same : (class other : Class) → Bool
is_same class other = nat_eq (place_of class) (place_of other)
