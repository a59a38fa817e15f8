-- The bits of a heap still stand in a net that has grown.
use Rattle.std.specs.Prelude.{List, slice_index_or}
use Rattle.opgen_heap.specs.Standing.{AllThere, BitsStillStand}
use Rattle.opgen_net.specs.declared.net.Net.{Net}
use Rattle.opgen_net.specs.declared.word_bits.WordBit.{WordBit}
use Rattle.opgen_net.specs.Grown.{HasGrown}
use Rattle.opgen_net.proofs.Grown.{grown-all_there}

pub columns-still_there : (old new : Net) → HasGrown old new → (columns : List (List WordBit)) → AllThere old columns → AllThere new columns
columns-still_there old new grown columns h = λ k d l. grown-all_there old new grown (slice_index_or columns k d) (h k d l)

pub bits-still_stand : BitsStillStand
bits-still_stand old new heap grown h = columns-still_there old new grown heap.columns h
