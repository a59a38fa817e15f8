-- The tables of a coefficient in a net, and what they add to a bit heap.
use Rattle.std.specs.Prelude.{ℕ, zero, suc, ◌≡◌, ◌+◌, ◌*◌, ◌^◌, ◌<◌, ◌≤◌, ◌==◌, Bool, List, [], ◌∷◌, ◌++◌, length, slice_index, ℤ, unsigned_abs, if◌then◌else◌}
use Rattle.opgen_num.specs.declared.format.TheConstants.{MAX_WIDTH}
use Rattle.opgen_num.specs.declared.format.Ratio.{Ratio}
use Rattle.opgen_heap.specs.Contents.{Contents}
use Rattle.opgen_heap.specs.Adding.{with_row, with_constant}
use Rattle.opgen_heap.specs.Standing.{AllThere}
use Rattle.opgen_net.specs.declared.net.Net.{Net}
use Rattle.opgen_net.specs.declared.node.Node.TheVariants.{Table}
use Rattle.opgen_net.specs.Grown.{HasGrown}
use Rattle.opgen_net.specs.Valid.{widths}
use Rattle.opgen_net.specs.WordRule.{bits_from, with_word}
use Rattle.opgen_kcm.specs.declared.chunk.Chunk.{Chunk}
use Rattle.opgen_kcm.specs.declared.table.Shape.{Shape}
use Rattle.opgen_kcm.specs.Chunks.{chunk_count, chunk_at}
use Rattle.opgen_kcm.specs.Entries.{in_guard_units, all_entries, least_of, offsets, greatest_of, shape_of, rows_in}

-- a net, and a heap of bits of its nodes
pub record Terms : Type 0 where
  pub net : Net
  pub heap : Contents

-- A table on the word of a chunk's bits. Its rows are added to the heap from the weight of their zeros up.
abbrev pub with_rows_in : Shape → (input : ℕ) → Chunk → List ℕ → Terms → Terms
with_rows_in s input c ns before =
    let address = with_word before.net.nodes (bits_from input c.low c.width) in
    record {
      net = record before.net { nodes = address.nodes ++ Table address.place (rows_in s ns) ∷ [] };
      heap = with_row before.heap (length address.nodes) s.width s.zeros;
    }

-- where all the numbers are 0 there is no table
abbrev pub with_table : (input : ℕ) → Chunk → List ℕ → Terms → Terms
with_table input c ns before = if greatest_of ns == 0 then before else with_rows_in (shape_of ns) input c ns before

-- the least entry is in the constant, and the others are above it in the table
abbrev pub with_entries : (input : ℕ) → Chunk → List ℤ → Terms → Terms
with_entries input c es before = with_table input c (offsets es) (record before { heap = with_constant before.heap (least_of es) })

-- the first chunks of the input, from the lowest up
abbrev pub with_chunks : Ratio → (input width : ℕ) (signed : Bool) → (count : ℕ) → Terms → Terms
with_chunks q input width signed zero before = before
with_chunks q input width signed (suc k) before =
    let c = chunk_at width signed k in
    with_entries input c (all_entries q c) (with_chunks q input width signed k before)

abbrev pub input_width : Net → (input : ℕ) → ℕ
input_width net input = slice_index (widths net.nodes) input

-- the tables of all chunks
abbrev pub with_rows : Ratio → (guard input : ℕ) (signed : Bool) → Terms → Terms
with_rows q guard input signed before =
    let width = input_width before.net input in
    with_chunks (in_guard_units q guard) input width signed (chunk_count width) before

-- Nodes and bits may have been added, and nothing else has changed; where the heap's bits stood in the net, they still do.
pub record HasTermsMore (old new : Terms) : Type 0 where
  pub net : HasGrown old.net new.net
  pub bits : AllThere old.net old.heap.columns → AllThere new.net new.heap.columns
  pub width : new.heap.width ≡ old.heap.width

-- The numbers whose quotients are rounded stand in 128 bits: the greatest multiple of an input of so many bits, in halves of a
-- unit, with the denominator.
abbrev pub HasRoom : Ratio → (width : ℕ) → Type 0
HasRoom q width = unsigned_abs q.num * 2 ^ (width + 1) + unsigned_abs q.den < 2 ^ 126

-- no table of the coefficient is wider than a signal may be
abbrev pub HasNarrowRows : Ratio → (width : ℕ) (signed : Bool) → Type 0
HasNarrowRows q width signed =
    (place : ℕ) → place < chunk_count width → (shape_of (offsets (all_entries q (chunk_at width signed place)))).width ≤ MAX_WIDTH
