-- Which nodes each node of a net reads.
use Rattle.std.specs.Prelude.{ℕ, Bool, true, false, List, [], ◌∷◌, Option, Some, None, slice_get}
use Rattle.opgen_design.specs.Sound.{names_read}
use Rattle.opgen_net.specs.declared.node.Node.{Node}
use Rattle.opgen_net.specs.declared.node.Node.TheVariants.{Input, Constant, Cells, Choice, Table, Delay}

-- the nodes that a node reads, its operands
abbrev pub reads_of : Node → List ℕ
reads_of (Input port w) = []
reads_of (Constant w) = []
reads_of (Cells class w e) = names_read e
reads_of (Choice on one other) = on ∷ one.node ∷ other.node ∷ []
reads_of (Table address rows) = address ∷ []
reads_of (Delay of) = of ∷ []

abbrev pub is_constant : Node → Bool
is_constant (Constant w) = true
is_constant _ = false

abbrev pub is_some_constant : Option Node → Bool
is_some_constant None = false
is_some_constant (Some n) = is_constant n

-- a constant has its word at all times, so it may be read in every cycle
abbrev pub is_constant_at : List Node → ℕ → Bool
is_constant_at nodes j = is_some_constant (slice_get nodes j)
