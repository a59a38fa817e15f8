-- The net of a compressor tree has a node with the heap's sum.
use Rattle.std.proofs.Common.{◌≡◌, ℕ, ◌<◌, ◌≤◌, Bool, true, false, [], List, length, refl, sym, ◌∙◌, subst}
use Rattle.std.specs.Prelude.{nat_lt, slice_index, if◌then◌else◌}
use Rattle.std.proofs.lemmas.Bool.{ltb-true}
use Rattle.opgen_compress.specs.Adder.{two}
use Rattle.opgen_compress.specs.Kept.{IsSumOf, IsSumOfColumns}
use Rattle.opgen_compress.specs.Recipe.{Column, State, all_columns, compressed, finished, fullest, lowered, row, with_sum}
use Rattle.opgen_compress.proofs.Finished.{all_columns-length, all-lowered, heap-sum, node-there, row-length, row-there, rows-sum, single-sum, sum-fits}
use Rattle.opgen_compress.proofs.Passed.{Passed, lowered-fullest}
use Rattle.opgen_design.specs.declared.expr.Op.TheVariants.{Plus}
use Rattle.opgen_design.specs.Tree.{name}
use Rattle.opgen_design.specs.Value.{IsWidth}
use Rattle.opgen_heap.specs.Contents.{Contents}
use Rattle.opgen_heap.specs.Standing.{AllThere}
use Rattle.opgen_heap.proofs.Standing.{columns-still_there}
use Rattle.opgen_net.specs.declared.cell.Class.TheVariants.{Add}
use Rattle.opgen_net.specs.declared.net.Net.{Net}
use Rattle.opgen_net.specs.declared.node.Node.{Node}
use Rattle.opgen_net.specs.declared.node.Node.TheVariants.{Cells}
use Rattle.opgen_net.specs.Placed.{Placed, with_bits}
use Rattle.opgen_net.specs.Valid.{IsValid, widths}
use Rattle.opgen_net.specs.WordRule.{HasBits}
use Rattle.opgen_net.proofs.Appending.{width-append_last}
use Rattle.opgen_net.proofs.Grown.{grown-width}
use Rattle.opgen_net.proofs.Later.{Later, bits-later, later-node, later-then}
use Rattle.opgen_net.proofs.WordLaws.{word-found_width, word-has_bits}
use Rattle.opgen_heap.proofs.Heaps.{IsHeap}

-- a node of a width that has the sum of columns over the net before
record IsAdded (net : Net) (columns : List Column) (width : ℕ) (p : Placed) : Type 0 where
  later : Later net p.net
  sum : IsSumOfColumns net columns width p.net.nodes p.place
  wide : slice_index (widths p.net.nodes) p.place ≡ width

module _ (net : Net) (columns : List Column) (width : ℕ) (valid : IsValid net) (is_width : IsWidth width)
    (many : length columns ≡ width) (full : fullest columns ≤ 2) (there : AllThere net columns) where
  row-width : (place : ℕ) → IsWidth (length (row place columns))
  row-width place = subst IsWidth (sym (row-length place columns ∙ many)) is_width

  abbrev one : Placed
  one = with_bits net (row 0 columns)

  one-later : Later net one.net
  one-later = bits-later net valid (row 0 columns) (row-width 0) (row-there net 0 columns there)

  one-bits : HasBits net (row 0 columns) one.net.nodes one.place
  one-bits = word-has_bits net valid (row 0 columns) (row-there net 0 columns there)

  one-wide : slice_index (widths one.net.nodes) one.place ≡ width
  one-wide = word-found_width net valid (row 0 columns) (row-there net 0 columns there) ∙ row-length 0 columns ∙ many

  still-there : AllThere one.net columns
  still-there = columns-still_there net one.net one-later.grown columns there

  abbrev other : Placed
  other = with_bits one.net (row 1 columns)

  other-later : Later one.net other.net
  other-later = bits-later one.net one-later.valid (row 1 columns) (row-width 1) (row-there one.net 1 columns still-there)

  other-bits : HasBits one.net (row 1 columns) other.net.nodes other.place
  other-bits = word-has_bits one.net one-later.valid (row 1 columns) (row-there one.net 1 columns still-there)

  other-wide : slice_index (widths other.net.nodes) other.place ≡ width
  other-wide =
      word-found_width one.net one-later.valid (row 1 columns) (row-there one.net 1 columns still-there) ∙ row-length 1 columns ∙ many

  abbrev sum-node : Node
  sum-node = Cells Add width (two Plus (name one.place) (name other.place))

  abbrev both : Placed
  both = with_sum width other.net one.place other.place

  kept-wide : slice_index (widths other.net.nodes) one.place ≡ width
  kept-wide =
      grown-width one.net other.net other-later.grown one.place (node-there one.net one.place width is_width one-wide) ∙ one-wide

  both-later : Later other.net both.net
  both-later =
      later-node other.net sum-node other-later.valid
      (refl, sum-fits other.net one.place other.place width is_width kept-wide other-wide) refl

  both-added : IsAdded net columns width both
  both-added = record {
    later = later-then net other.net both.net (later-then net one.net other.net one-later other-later) both-later;
    sum = rows-sum net columns width many one.net other.net both.net one.place other.place both.place one-later other-later is_width full
        there one-bits other-bits one-wide refl refl;
    wide = width-append_last other.net.nodes sum-node;
  }

  by-rows : (b : Bool) → (b ≡ true → fullest columns < 2) → IsAdded net columns width (if b then one else both)
  by-rows true few = record {
    later = one-later;
    sum = single-sum net columns width many one.net one.place (few refl) one-bits;
    wide = one-wide;
  }
  by-rows false few = both-added

  finished-added : IsAdded net columns width (finished width (record { net = net; columns = columns }))
  finished-added = by-rows (nat_lt (fullest columns) 2) (ltb-true (fullest columns) 2)

-- a node of the heap's width that has its sum
pub record IsCompressed (net : Net) (heap : Contents) (p : Placed) : Type 0 where
  pub later : Later net p.net
  pub sum : IsSumOf net heap p.net.nodes p.place
  pub wide : slice_index (widths p.net.nodes) p.place ≡ heap.width

pub compressed-is : (net : Net) (heap : Contents) → IsValid net → IsWidth heap.width → IsHeap heap → AllThere net heap.columns
    → IsCompressed net heap (compressed net heap)
compressed-is net heap valid is_width is there =
    let s : State = lowered net (all_columns heap) in
    let p : Passed net [] (all_columns heap) s = all-lowered net heap valid there in
    let last = finished heap.width s in
    let end : IsAdded s.net s.columns heap.width last =
    finished-added s.net s.columns heap.width p.later.valid is_width (p.many ∙ all_columns-length heap)
    (lowered-fullest net (all_columns heap)) p.there in
    record {
      later = later-then net s.net last.net p.later end.later;
      sum = heap-sum net heap s last.net.nodes last.place is.few is.below p end.sum;
      wide = end.wide;
    }
