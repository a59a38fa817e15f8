use Rattle.std.proofs.Common.{◌≡◌, ℕ, ◌+◌, ◌-◌, ◌*◌, ◌^◌, drop, length, min, sum}
use Rattle.opgen_streams.specs.Rows.{row_in}
use Rattle.opgen_streams.proofs.Unpacked.{AreUnpacked}
use Rattle.opgen_streams.proofs.unpack.unpack_apart.Given as goal

abbrev pub invariant-loop-width : goal.invariant-loop-width
invariant-loop-width l = record {
  place : l.place ≡ min (l.first * length l.widths + l.width-index) (2 ^ 64 - 1);
  lanes : length l.rest ≡ sum (drop l.width-index l.widths);
  left : (k : ℕ) → row_in (drop l.width-index l.widths) l.rest k ≡ drop l.width-index (row_in l.widths l.lanes k);
  unpacked : AreUnpacked (length l.widths) l.count l.first l.apart l.width-index (row_in l.widths l.lanes) l.fn.cells l.cells;
}
