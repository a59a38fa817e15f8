-- What a step of the recipe asks of the state: the node or the bits that it makes may stand in the new net.
use Rattle.std.specs.Prelude.{ℕ, All, List, length, slice_index}
use Rattle.opgen_design.specs.Tree.{Tree, chain, more, none}
use Rattle.opgen_design.specs.Value.{IsWidth}
use Rattle.opgen_net.specs.declared.cell.Class.{Class}
use Rattle.opgen_net.specs.declared.cell.Class.TheVariants as class
use Rattle.opgen_net.specs.declared.net.Net.{Net}
use Rattle.opgen_net.specs.declared.node.Node.{Node}
use Rattle.opgen_net.specs.declared.node.Node.TheVariants.{Input, Constant, Cells, Choice, Table, Delay}
use Rattle.opgen_net.specs.declared.word_bits.WordBit.{WordBit}
use Rattle.opgen_net.specs.Valid.{MayStand, widths}
use Rattle.opgen_net.specs.WordRule.{IsThere}
use Rattle.opgen_pieces.specs.Law.{AreOperands}
use Rattle.opgen_cuts.specs.declared.cutting.Cutting.{Cutting}
use Rattle.opgen_cuts.specs.Renamed.{renamed, renamed_slice}
use Rattle.opgen_cuts.specs.Wires.{bits_at, wire_bits}

-- bits of nodes that are there, as many as a signal may have
pub record AreBits (net : Net) (given : List WordBit) : Type 0 where
  pub width : IsWidth (length given)
  pub there : All (IsThere (widths net.nodes)) given

-- a node that may stand at the end of the new net, over the places of the nodes that it reads
abbrev pub MayFollow : Cutting → Node → Type 0
MayFollow s n = MayStand (widths s.net.nodes) n

abbrev pub PiecesFollow : Cutting → Tree → Type 0
PiecesFollow s (chain op (more a (more b none))) = AreOperands s.net (wire_bits s.bits a) (wire_bits s.bits b)
PiecesFollow s _ = ⊥

abbrev pub CellsFollow : Cutting → Class → (width : ℕ) → Tree → Type 0
CellsFollow s class.Wire width e = AreBits s.net (wire_bits s.bits e)
CellsFollow s class.Add width e = PiecesFollow s e
CellsFollow s c width e = MayFollow s (Cells c width (renamed s.places e))

-- the step of the recipe for a node can be made
abbrev pub CopyFollows : Cutting → Node → Type 0
CopyFollows s (Input port width) = IsWidth width
CopyFollows s (Constant w) = IsWidth (length w)
CopyFollows s (Cells c width e) = CellsFollow s c width e
CopyFollows s (Choice on one other) =
    MayFollow s (Choice (slice_index s.places on) (renamed_slice s.places one) (renamed_slice s.places other))
CopyFollows s (Table address rows) = MayFollow s (Table (slice_index s.places address) rows)
CopyFollows s (Delay of) = MayFollow s (Delay (slice_index s.places of)) × IsWidth (length (bits_at s.bits of))
