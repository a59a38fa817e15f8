use Rattle.std.proofs.Common.{sym, ◌∙◌, subst}
use Rattle.std.specs.Prelude.{All}
use Rattle.opgen_target.specs.Delays.{IsTableWidth}
use Rattle.opgen_pipe.specs.Layouts.{schedule_of}
use Rattle.opgen_pipe.proofs.CellLaws.{cells-wide, ledger-whole, ledger-list}
use Rattle.opgen_pipe.proofs.cells.charge_design.Goals as goal

pub charge_all-requires : goal.charge_all-requires
charge_all-requires g c =
    subst (All (λ c. IsTableWidth c.width)) (sym (c.deref.ensures.value ∙ c.in_ok-cells.ensures))
    (cells-wide c.args.net.now c.requires.valid (schedule_of c.args.layout.now))

pub returns-clause-cells : goal.returns-clause-cells
returns-clause-cells g c =
    ledger-list c.args.net.now c.requires.valid (schedule_of c.args.layout.now) c.requires.few c.deref.result.now
    (c.deref.ensures.value ∙ c.in_ok-cells.ensures) _ c.charge_all.ensures.ledger c.ledger.result c.ledger.ensures

pub returns-clause-ledger : goal.returns-clause-ledger
returns-clause-ledger g c =
    ledger-whole c.args.net.now c.requires.valid (schedule_of c.args.layout.now) c.requires.few c.deref.result.now
    (c.deref.ensures.value ∙ c.in_ok-cells.ensures) _ c.charge_all.ensures.ledger
