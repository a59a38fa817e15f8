-- How a node with given bits is made: an earlier node that has them, or a new one of constants, slices of nodes and the operator
-- `&`.
use Rattle.std.specs.Prelude.{ℕ, zero, suc, ◌≡◌, ◌+◌, ◌<◌, ◌≤◌, ℤ, Bool, true, false, ◌&&◌, if◌then◌else◌, nat_eq, All, List, [], ◌∷◌, ◌++◌, length, map, reverse, slice_index, slice_index_or, Option, Some, None}
use Rattle.opgen_net.specs.declared.cell.Class.TheVariants.{Wire}
use Rattle.opgen_design.specs.declared.expr.Op.TheVariants.{Cat}
use Rattle.opgen_design.specs.declared.expr.Slice.{Slice}
use Rattle.opgen_net.specs.declared.net.Net.{Net}
use Rattle.opgen_net.specs.declared.node.Node.{Node}
use Rattle.opgen_net.specs.declared.node.Node.TheVariants.{Constant, Cells}
use Rattle.opgen_net.specs.declared.word_bits.WordBit.{WordBit}
use Rattle.opgen_net.specs.declared.word_bits.WordBit.TheVariants.{Zero, One, Of}
use Rattle.opgen_net.specs.declared.word_bits.Piece.{Piece}
use Rattle.opgen_net.specs.declared.word_bits.Piece.TheVariants.{Bits, Part}
use Rattle.opgen_design.specs.Tree.{Tree, bits, chain}
use Rattle.opgen_design.specs.Plain.{trees_of}
use Rattle.opgen_net.specs.Flow.{Inputs, flow}
use Rattle.opgen_design.specs.Run.{AreWords}
use Rattle.opgen_net.specs.Valid.{widths, input_widths, LiesWithin}
use Rattle.opgen_net.specs.Made.{slice_tree}

-- a bit of a node that is there
abbrev pub IsThere : List ℕ → WordBit → Type 0
IsThere ws Zero = Unit {0}
IsThere ws One = Unit {0}
IsThere ws (Of node index) = index < slice_index ws node

-- so many bits of a node from a place up, the highest first
abbrev pub bits_from : (node low count : ℕ) → List WordBit
bits_from node low zero = []
bits_from node low (suc k) = Of node (low + k) ∷ bits_from node low k

abbrev pub bit_flow : List Node → Inputs → ℤ → WordBit → Bool
bit_flow nodes inputs t Zero = false
bit_flow nodes inputs t One = true
bit_flow nodes inputs t (Of node index) = slice_index_or (flow nodes inputs node t) index false

-- the word of bits that are given from the highest down
abbrev pub word_flow : List Node → Inputs → List WordBit → ℤ → List Bool
word_flow nodes inputs given t = reverse (map (bit_flow nodes inputs t) given)

-- a node that has at every time the bits given of the nodes before, whatever words of their widths the inputs are
abbrev pub HasBits : (before : Net) → List WordBit → (after : List Node) → ℕ → Type 0
HasBits before given after n =
    (inputs : Inputs) (t : ℤ) → All (AreWords (input_widths before)) inputs → flow after inputs n t ≡ word_flow before.nodes inputs given t

-- a bit alone in its run
abbrev pub alone : WordBit → Piece
alone Zero = Bits (false ∷ [])
alone One = Bits (true ∷ [])
alone (Of node index) = Part (record { node = node; high = index; low = index })

-- the run of a bit and the run below it: both are constants, or the bit is the next one up in the node
abbrev pub joined : WordBit → Piece → Option Piece
joined Zero (Bits w) = Some (Bits (w ++ false ∷ []))
joined One (Bits w) = Some (Bits (w ++ true ∷ []))
joined (Of node index) (Part s) =
    if nat_eq node s.node && nat_eq index (s.high + 1) then Some (Part (record { node = node; high = index; low = s.low })) else None
joined _ _ = None

-- a bit over a run and those below: in a longer run, where there is one, or else alone
abbrev pub over : WordBit → Option Piece → Piece → List Piece → List Piece
over b None r rs = alone b ∷ r ∷ rs
over b (Some longer) r rs = longer ∷ rs

-- constants, or a part that lies within its node
abbrev pub RunIsThere : List ℕ → Piece → Type 0
RunIsThere ws (Bits w) = 1 ≤ length w
RunIsThere ws (Part s) = LiesWithin ws s

-- runs from the highest down, with a bit above them
abbrev pub above : WordBit → List Piece → List Piece
above b [] = alone b ∷ []
above b (r ∷ rs) = over b (joined b r) r rs

-- the bits are cut only where two neighbours stand in no run together, so these runs are the fewest
abbrev pub runs : List WordBit → List Piece
runs [] = []
runs (b ∷ bs) = above b (runs bs)

-- the first run, if it is of constants, has at most so many bits
abbrev pub FirstHasAtMost : ℕ → List Piece → Type 0
FirstHasAtMost n (Bits w ∷ rs) = length w ≤ n
FirstHasAtMost n _ = Unit {0}

-- a run as an operand: a slice that is its whole node is read by the node's name
abbrev pub run_tree : List ℕ → Piece → Tree
run_tree ws (Bits w) = bits w
run_tree ws (Part s) = slice_tree ws s

-- one run stands by itself, several are joined by &
abbrev pub word_tree : List ℕ → List Piece → Tree
word_tree ws (r ∷ []) = run_tree ws r
word_tree ws rs = chain Cat (trees_of (map (run_tree ws) rs))

-- a slice has all bits of its node
abbrev pub is_whole : List ℕ → Slice → Bool
is_whole ws s = nat_eq s.low 0 && nat_eq (s.high + 1) (slice_index ws s.node)

-- the nodes of a net, and the number of one of them
pub record Found : Type 0 where
  pub nodes : List Node
  pub place : ℕ

abbrev pub with_node : List Node → Node → Found
with_node nodes n = record { nodes = nodes ++ n ∷ []; place = length nodes }

-- constants alone are a Constant, the bits of a whole node are that node, and all else is an expression of so many bits
abbrev pub with_runs : List Node → ℕ → List Piece → Found
with_runs nodes count (Bits w ∷ []) = with_node nodes (Constant w)
with_runs nodes count (Part s ∷ []) =
    if is_whole (widths nodes) s then record { nodes = nodes; place = s.node } else with_node nodes (Cells Wire count (slice_tree (widths nodes) s))
with_runs nodes count rs = with_node nodes (Cells Wire count (word_tree (widths nodes) rs))

abbrev pub with_word : List Node → List WordBit → Found
with_word nodes given = with_runs nodes (length given) (runs given)
