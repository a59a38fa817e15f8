use Rattle.std.proofs.Common.{◌≡◌, ◌+◌, ◌-◌, ◌*◌, ◌++◌, length, drop, ap, ◌∙◌, arith}
use Rattle.std.proofs.lemmas.List.{length-append, length-drop, length-take}
use Rattle.opgen_vec.specs.Streams.{rows_in}
use Rattle.opgen_vec.proofs.RowsInStreams.{rows_unpacked, whole_more, written_whole}
use Rattle.opgen_vec.proofs.streams.unpack.Goals as goal

pub invariant_of-rows-2 : goal.invariant_of-rows-2
invariant_of-rows-2 c =
    let rows = c.args.rows.now in
    let old = rows.cells.items in
    let new = c.unpack_apart.new.cells in
    let all = c.deref_mut.result.now in
    let before = c.len-before.result in
    let put = written_whole before (before + c.args.count * rows.columns) old _ all
    new c.resize.new.self.items (omega (arith, c.len-before.ensures, rows.cells.ok.0)) (omega arith) c.deref_mut.ensures.value
    c.in_ok-resize.ensures.items (omega (arith, c.unpack_apart.ensures.length)) c.resize.new.self.len (omega (arith, c.resize.new.self.ok.0)) in
    let many : length (old ++ new) ≡ length old + c.args.count * rows.columns
    = omega (
      arith,
      length-append old new,
      c.unpack_apart.ensures.length,
      ap length c.deref_mut.ensures.value,
      c.in_ok-resize.ensures.len,
      c.resize.new.self.ok.0,
      c.len-before.ensures,
      rows.cells.ok.0,
      length-take (length all - before) (drop before all),
      length-drop before all,
    ) in
    record { whole = whole_more rows.columns c.args.count old _ rows.whole (ap length put ∙ many) }

pub returns-clause-cells : goal.returns-clause-cells
returns-clause-cells c =
    let rows = c.args.rows.now in
    let old = rows.cells.items in
    let new = c.unpack_apart.new.cells in
    let all = c.deref_mut.result.now in
    let before = c.len-before.result in
    let put : new ≡ rows_in c.args.widths.now c.args.lanes.now c.args.count
    = rows_unpacked c.args.widths.now c.args.lanes.now c.args.count _ new
    (omega (
      arith,
      ap (λ n. c.args.count * n) c.requires.columns,
      ap length c.deref_mut.ensures.value,
      c.in_ok-resize.ensures.len,
      c.resize.new.self.ok.0,
      length-take (length all - before) (drop before all),
      length-drop before all,
    ))
    c.unpack_apart.ensures.length c.unpack_apart.ensures.put in
    written_whole before (before + c.args.count * rows.columns) old _ all
    new c.resize.new.self.items (omega (arith, c.len-before.ensures, rows.cells.ok.0)) (omega arith) c.deref_mut.ensures.value
    c.in_ok-resize.ensures.items (omega (arith, c.unpack_apart.ensures.length)) c.resize.new.self.len (omega (arith, c.resize.new.self.ok.0))
    ∙ ap (λ xs. old ++ xs) put
