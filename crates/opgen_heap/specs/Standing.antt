-- When the bits of a heap are bits of a net's nodes.
use Rattle.std.specs.Prelude.{All, List}
use Rattle.opgen_heap.specs.Contents.{Contents}
use Rattle.opgen_net.specs.declared.net.Net.{Net}
use Rattle.opgen_net.specs.declared.word_bits.WordBit.{WordBit}
use Rattle.opgen_net.specs.Grown.{HasGrown}
use Rattle.opgen_net.specs.Valid.{widths}
use Rattle.opgen_net.specs.WordRule.{IsThere}

-- each bit is a bit of a node of the net
abbrev pub AllThere : Net → List (List WordBit) → Type 0
AllThere net columns = All (All (IsThere (widths net.nodes))) columns

-- the bits of a heap that stand in a net still stand there when it has grown
abbrev pub BitsStillStand : Type 0
BitsStillStand = (old new : Net) (heap : Contents) → HasGrown old new → AllThere old heap.columns → AllThere new heap.columns
