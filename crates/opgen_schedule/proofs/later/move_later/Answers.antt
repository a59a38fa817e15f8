use Rattle.std.proofs.Common.{◌-◌, ap, ◌∙◌, arith}
use Rattle.std.specs.List.{fold}
use Rattle.opgen_schedule.specs.Moves.{read_in}
use Rattle.opgen_schedule.proofs.Passes.{later-step}
use Rattle.opgen_schedule.proofs.later.move_later.Goals as goal

pub graph-preserved : goal.graph-preserved
graph-preserved c =
    let q = c.later_slot-own.result in
    let v = c.index-graph-place.result in
    record {
      within = omega (arith, c.graph.invariant.within);
      rest =
          later-step c.args.room c.args.costs.now c.args.graph.now (c.graph.place - 1) c.graph.place c.graph.seats c.take_seat.new.seats
          c.graph.lasts c.read_all.new.lasts v q (omega (arith, c.graph-test.true))
          (omega (arith, c.graph-test.true, c.graph.invariant.within)) c.index-graph-place.is c.later_slot-own.ensures c.take_seat.ensures
          (c.read_all.ensures ∙ ap (fold (read_in q.cycle) c.graph.lasts) c.as_slice.ensures)
          ∙ c.graph.invariant.rest;
    }
