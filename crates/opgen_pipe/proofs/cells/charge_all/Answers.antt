use Rattle.std.proofs.Common.{take, get_or, sym, ap, ◌∙◌}
use Rattle.std.proofs.lemmas.List.{take_all, take_more}
use Rattle.opgen_net.specs.declared.cell.Cell.{Cell}
use Rattle.opgen_net.specs.declared.cell.Class.TheVariants.{Wire}
use Rattle.opgen_target.specs.Ledger.{ledger_of, with_cell}
use Rattle.opgen_target.proofs.Charging.{ledger_of-more}
use Rattle.opgen_pipe.proofs.cells.charge_all.Goals as goal

pub cells-preserved : goal.cells-preserved
cells-preserved g c =
    let i = c.cells.cell-index in
    let cells = c.args.cells.now in
    let d : Cell = record { class = Wire; width = 0 } in
    record {
      ledger = c.charge.ensures.ledger ∙ ap (with_cell (get_or cells i d)) c.cells.invariant.ledger
          ∙ ledger_of-more (take i cells) (get_or cells i d) ∙ ap ledger_of (sym (take_more cells i d c.cells-test.true));
      target_name = c.charge.ensures.target_name ∙ c.cells.invariant.target_name;
      delays = c.charge.ensures.delays ∙ c.cells.invariant.delays;
      adjustable = c.charge.ensures.adjustable ∙ c.cells.invariant.adjustable;
    }

pub charge-requires : goal.charge-requires
charge-requires g c =
    let d : Cell = record { class = Wire; width = 0 } in c.requires c.cells.cell-index d c.cells-test.true

pub returns : goal.returns
returns g c = record {
  ledger = c.cells.invariant.ledger ∙ ap ledger_of (take_all c.cells.cell-index c.args.cells.now c.cells-test.false);
  target_name = c.cells.invariant.target_name;
  delays = c.cells.invariant.delays;
  adjustable = c.cells.invariant.adjustable;
}
