-- The signal names, table rows and ports that the design of a net has.
use Rattle.std.specs.Prelude.{ℕ, ◌+◌, ◌-◌, Bool, ◌&&◌, if◌then◌else◌, nat_eq, List, [], ◌∷◌, ◌++◌, length, slice_index, slice_index_or, codes, decimal}
use Rattle.opgen_num.specs.Words.{word}
use Rattle.opgen_design.specs.declared.expr.Slice.{Slice}
use Rattle.opgen_net.specs.declared.node.Node.{Node}
use Rattle.opgen_net.specs.declared.net.Output as net_output
use Rattle.opgen_design.specs.declared.design.Dir.TheVariants.{In, Out}
use Rattle.opgen_design.specs.declared.design.Port.{Port}
use Rattle.opgen_design.specs.Tree.{Tree, name, part}
use Rattle.opgen_net.specs.Valid.{slice_width}

-- node i is signal s<i>
abbrev pub signal_name : ℕ → List ℕ
signal_name i = codes "s" ++ decimal i

-- a slice that is a whole node is read by the node's name
abbrev pub slice_tree : List ℕ → Slice → Tree
slice_tree ws s = if nat_eq s.low 0 && nat_eq (s.high + 1) (slice_index ws s.node) then name s.node else part s.node s.high s.low

-- each row but the last, with its address
abbrev pub addressed : (width address : ℕ) → List (List Bool) → List (List Bool × List Bool)
addressed w a [] = []
addressed w a (r ∷ []) = []
addressed w a (r ∷ s ∷ rows) = (word w a, r) ∷ addressed w (a + 1) (s ∷ rows)

abbrev pub last_row : List (List Bool) → List Bool
last_row rows = slice_index_or rows (length rows - 1) []

-- a value of each node by its number, from a number on
abbrev pub each_node : {X : Type 0} → (ℕ → Node → X) → ℕ → List Node → List X
each_node f i [] = []
each_node f i (n ∷ ns) = f i n ∷ each_node f (i + 1) ns

abbrev pub input_port : List ℕ × ℕ → Port
input_port i = record { name = i.0; dir = In; width = i.1 }

abbrev pub output_port : net_output.Output → Port
output_port o = record { name = o.name; dir = Out; width = slice_width o.from }
