use Rattle.std.proofs.Common.{◌≡◌, ◌+◌, get_or, drop, sym, ap, ◌∙◌, subst, arith}
use Rattle.std.proofs.lemmas.List.{drop_more}
use Rattle.opgen_design.specs.Run.{Words}
use Rattle.opgen_runs.specs.Evaluate.{HaveWidths, put, put_option, settle}
use Rattle.opgen_sim.proofs.TableLaws.{table-there, table-at}
use Rattle.opgen_runs.proofs.Widths.{narrow, agree-at, driver-fits, declared-there, put-widths, words-eq}
use Rattle.opgen_sim.proofs.evaluate.settle.Goals as goal

pub put-requires-clause-narrow : goal.put-requires-clause-narrow
put-requires-clause-narrow c = narrow c.args.design.now c.requires.sound
    (record { signals = c.loop-place.signals; ports = c.loop-place.ports }) c.loop-place.invariant.widths

pub put-requires-clause-fits : goal.put-requires-clause-fits
put-requires-clause-fits c = driver-fits c.args.design.now c.requires.sound
    (record { signals = c.loop-place.signals; ports = c.loop-place.ports }) c.loop-place.invariant.widths c.get.result.now
    (agree-at c.args.design.now c.requires.sound (get_or c.args.order.now c.loop-place.place-index 0) c.get.result.now c.get.ensures)

pub put-requires-clause-there : goal.put-requires-clause-there
put-requires-clause-there c = declared-there c.args.design.now c.requires.sound
    (record { signals = c.loop-place.signals; ports = c.loop-place.ports }) c.loop-place.invariant.widths
    (get_or c.args.order.now c.loop-place.place-index 0) c.get.result.now c.get.ensures

pub offset_bounds-tables-place : goal.offset_bounds-tables-place
offset_bounds-tables-place c = omega (
  arith,
  table-there c.args.design.now.drivers c.args.tables.now (get_or c.args.order.now c.loop-place.place-index 0) c.get.result.now
      c.requires.tables c.get.ensures,
)

pub bounds-tables-place : goal.bounds-tables-place
bounds-tables-place c = table-there c.args.design.now.drivers c.args.tables.now (get_or c.args.order.now c.loop-place.place-index 0)
    c.get.result.now c.requires.tables c.get.ensures

pub put-requires-clause-table : goal.put-requires-clause-table
put-requires-clause-table c = table-at c.args.design.now.drivers c.args.tables.now (get_or c.args.order.now c.loop-place.place-index 0)
    c.get.result.now c.index-tables-place.result c.requires.tables c.get.ensures c.index-tables-place.is

pub loop-place-preserved : goal.loop-place-preserved
loop-place-preserved c =
    let d = c.args.design.now in
    let order = c.args.order.now in
    let i = c.loop-place.place-index in
    let k = c.get.result.now in
    let v : Words = record { signals = c.loop-place.signals; ports = c.loop-place.ports } in
    let e : put k v ≡ record { signals = c.put.new.signals; ports = c.put.new.ports } = sym
    (words-eq c.put.new.signals c.put.new.ports (put k v) c.put.ensures.signals c.put.ensures.ports) in
    let step : settle d.drivers (drop i order) v ≡ settle d.drivers (drop (i + 1) order) (put k v) =
    ap (λ l. settle d.drivers l v) (drop_more order i 0 c.loop-place-test.true)
    ∙ ap (λ o. settle d.drivers (drop (i + 1) order) (put_option o v)) c.get.ensures in
    record {
      same = ap (settle d.drivers (drop (i + 1) order)) (sym e) ∙ sym step ∙ c.loop-place.invariant.same;
      widths = subst (HaveWidths d) e
          (put-widths d c.requires.sound v c.loop-place.invariant.widths k
          (agree-at d c.requires.sound (get_or order i 0) k c.get.ensures));
    }
