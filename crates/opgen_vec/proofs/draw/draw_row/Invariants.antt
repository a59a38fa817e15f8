use Rattle.std.proofs.Common.{◌≡◌, ◌++◌, drop}
use Rattle.opgen_vec.specs.Stimulus.{draws_from, state_after}
use Rattle.opgen_vec.proofs.draw.draw_row.Given as goal

abbrev pub invariant-ports : goal.invariant-ports
invariant-ports l = record {
  at : l.place ≡ l.port-index;
  state : state_after l.ports l.start ≡ state_after (drop l.port-index l.ports) l.state;
  cells : l.fn.cells.items ++ draws_from l.divisor 0 l.ports l.start
      ≡ l.cells.items ++ draws_from l.divisor l.place (drop l.port-index l.ports) l.state;
}
