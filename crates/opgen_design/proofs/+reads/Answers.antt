use Rattle.std.proofs.Common.{◌≡◌, ◌++◌, ◌+◌, ℕ, sym, ap, ◌∙◌, List, take}
use Rattle.std.proofs.lemmas.List.{append_assoc}
use Rattle.opgen_design.proofs.UseLaws.{names-more, ports-more}
use Rattle.opgen_design.specs.Sound.{names_read, operand_names, ports_read, operand_ports}
use Rattle.opgen_design.specs.Plain.{plain, plain_all}
use Rattle.opgen_design.proofs.+reads.Goals as goal

step : (new mid old front more whole : List ℕ) → new ≡ mid ++ more → mid ≡ old ++ front → whole ≡ front ++ more → new ≡ old ++ whole
step new mid old front more whole e f g = e ∙ ap (λ x. x ++ more) f ∙ append_assoc old front more ∙ ap (λ x. old ++ x) (sym g)

pub reads::add_all_uses-loop-expr-preserved : goal.reads::add_all_uses-loop-expr-preserved
reads::add_all_uses-loop-expr-preserved t c =
    let xs = c.args.exprs.now in
    let i = c.loop-expr.expr-index in
    record {
      names =
          step c.add_uses.new.uses.names.items c.loop-expr.uses.names.items c.args.uses.now.names.items
          (operand_names (plain_all (take i xs))) (names_read (plain c.expr-item.result))
          (operand_names (plain_all (take (i + 1) xs))) c.in_ok-add_uses.ensures.names c.loop-expr.invariant.names
          (names-more xs i c.expr-item.result c.loop-expr-test.true c.expr-item.is);
      ports =
          step c.add_uses.new.uses.ports.items c.loop-expr.uses.ports.items c.args.uses.now.ports.items
          (operand_ports (plain_all (take i xs))) (ports_read (plain c.expr-item.result))
          (operand_ports (plain_all (take (i + 1) xs))) c.in_ok-add_uses.ensures.ports c.loop-expr.invariant.ports
          (ports-more xs i c.expr-item.result c.loop-expr-test.true c.expr-item.is);
    }
