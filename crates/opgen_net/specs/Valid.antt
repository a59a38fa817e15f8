-- Valid nets: each node reads only earlier nodes, the widths of its operands agree, cells are what their class says, and each output
-- is within its node.
use Rattle.std.specs.Prelude.{◌≡◌, ℕ, ◌+◌, ◌-◌, ◌^◌, ◌<◌, ◌≤◌, Bool, true, false, List, [], ◌∷◌, ◌++◌, length, map, slice_index, slice_index_or, Some, All}
use Rattle.opgen_design.specs.declared.expr.TheConstants.{MAX_NESTING}
use Rattle.opgen_net.specs.Cells.{IsOfClass}
use Rattle.opgen_design.specs.declared.expr.Slice.{Slice}
use Rattle.opgen_net.specs.declared.node.Node.{Node}
use Rattle.opgen_net.specs.declared.node.Node.TheVariants.{Input, Constant, Cells, Choice, Table, Delay}
use Rattle.opgen_net.specs.declared.net.Net.{Net}
use Rattle.opgen_design.specs.Tree.{Tree}
use Rattle.opgen_design.specs.Value.{IsWidth, width, nesting}

abbrev pub slice_width : Slice → ℕ
slice_width s = s.high + 1 - s.low

-- the width of a node over the widths of the nodes before it
abbrev pub node_width : List ℕ → Node → ℕ
node_width ws (Input port w) = w
node_width ws (Constant w) = length w
node_width ws (Cells class w e) = w
node_width ws (Choice on one other) = slice_width one
node_width ws (Table address rows) = length (slice_index_or rows 0 [])
node_width ws (Delay of) = slice_index ws of

abbrev pub widths_on : List ℕ → List Node → List ℕ
widths_on ws [] = ws
widths_on ws (n ∷ ns) = widths_on (ws ++ node_width ws n ∷ []) ns

-- the width of each node
abbrev pub widths : List Node → List ℕ
widths nodes = widths_on [] nodes

-- a slice's node is there and has all its bits
abbrev pub LiesWithin : List ℕ → Slice → Type 0
LiesWithin ws s = (s.low ≤ s.high) × (s.high < slice_index ws s.node)

-- an expression of a width over nodes of these widths: it reads no port, and its parentheses nest at most so deep
pub record FitsNodes (ws : List ℕ) (w : ℕ) (e : Tree) : Type 0 where
  pub has_width : width ws [] e ≡ Some w
  pub nests : nesting e ≤ MAX_NESTING

pub record FitsChoice (ws : List ℕ) (on : ℕ) (one other : Slice) : Type 0 where
  pub one_bit : slice_index ws on ≡ 1
  pub one_lies : LiesWithin ws one
  pub other_lies : LiesWithin ws other
  pub same_width : slice_width one ≡ slice_width other

-- a row for each word of the address, all of one width
pub record FitsTable (ws : List ℕ) (address : ℕ) (rows : List (List Bool)) : Type 0 where
  pub address_width : (1 ≤ slice_index ws address) × (slice_index ws address ≤ 6)
  pub row_for_each : length rows ≡ 2 ^ slice_index ws address
  pub row_width : IsWidth (length (slice_index_or rows 0 []))
  pub same_width : All (λ r. length r ≡ length (slice_index_or rows 0 [])) rows

-- a node that may stand after nodes of these widths
abbrev pub MayStand : List ℕ → Node → Type 0
MayStand ws (Input port w) = IsWidth w
MayStand ws (Constant w) = IsWidth (length w)
MayStand ws (Cells class w e) = IsOfClass ws class e × FitsNodes ws w e
MayStand ws (Choice on one other) = FitsChoice ws on one other
MayStand ws (Table address rows) = FitsTable ws address rows
MayStand ws (Delay of) = of < length ws

abbrev pub AllMayStand : List ℕ → List Node → Type 0
AllMayStand ws [] = Unit {0}
AllMayStand ws (n ∷ ns) = MayStand ws n × AllMayStand (ws ++ node_width ws n ∷ []) ns

-- port and width of the Input nodes, in order
abbrev pub input_nodes : List Node → List (ℕ × ℕ)
input_nodes [] = []
input_nodes (Input port w ∷ ns) = (port, w) ∷ input_nodes ns
input_nodes (_ ∷ ns) = input_nodes ns

-- each with its place, from a number on
abbrev pub numbered : ℕ → List ℕ → List (ℕ × ℕ)
numbered k [] = []
numbered k (w ∷ ws) = (k, w) ∷ numbered (k + 1) ws

abbrev pub input_widths : Net → List ℕ
input_widths net = map (λ i. i.1) net.inputs

-- each node may stand where it does; the Input nodes are those of the inputs, in order; each output lies within its node
pub record IsValid (net : Net) : Type 0 where
  pub nodes : AllMayStand [] net.nodes
  pub inputs : input_nodes net.nodes ≡ numbered 0 (input_widths net)
  pub outputs : All (λ o. LiesWithin (widths net.nodes) o.from) net.outputs

abbrev pub is_delay : Node → Bool
is_delay (Delay of) = true
is_delay _ = false
