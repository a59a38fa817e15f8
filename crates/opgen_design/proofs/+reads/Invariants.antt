use Rattle.std.proofs.Common.{◌≡◌, ◌++◌, take}
use Rattle.opgen_design.specs.Plain.{plain_all}
use Rattle.opgen_design.specs.Sound.{operand_names, operand_ports}
use Rattle.opgen_design.proofs.+reads.Given as goal

abbrev pub invariant-reads::add_all_uses-loop-expr : goal.invariant-reads::add_all_uses-loop-expr
invariant-reads::add_all_uses-loop-expr l = record {
  names : l.uses.names.items ≡ l.initial.uses.names.items ++ operand_names (plain_all (take l.expr-index l.exprs));
  ports : l.uses.ports.items ≡ l.initial.uses.ports.items ++ operand_ports (plain_all (take l.expr-index l.exprs));
}
