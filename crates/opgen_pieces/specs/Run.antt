-- The runs of this crate's expressions as those of opgen_net.
use Rattle.std.specs.Prelude.{ℕ, All, List, map}
use Rattle.opgen_net.specs.declared.word_bits.Piece.{Piece}
use Rattle.opgen_net.specs.declared.word_bits.Piece.TheVariants as piece
use Rattle.opgen_net.specs.WordRule.{RunIsThere}
use Rattle.opgen_pieces.specs.declared.operand.Run.{Run}
use Rattle.opgen_pieces.specs.declared.operand.Run.TheVariants.{Bits, Part}

abbrev pub net_run : Run → Piece
net_run (Bits w) = piece.Bits w
net_run (Part s) = piece.Part s

abbrev pub net_runs : List Run → List Piece
net_runs rs = map net_run rs

-- constants, or parts that lie within their nodes
abbrev pub RunsAreThere : (widths : List ℕ) → List Run → Type 0
RunsAreThere ws rs = All (λ r. RunIsThere ws (net_run r)) rs
