use Rattle.std.proofs.Common.{◌≡◌, length, rules}
use Rattle.opgen_target.proofs.Lists.{cell-entered}
use Rattle.test_commands.proofs.extreme.ExtremeTarget.charge.Goals as goal

pub returns-clause-ledger : goal.returns-clause-ledger
returns-clause-ledger c =
    let six : length c.args.self.now.charged ≡ 6 = search rules in
    cell-entered c.args.self.now.charged c.args.cell c.place_of.result c.saturating_add.result c.place_of.ensures six
    (rw (← c.from.ensures) c.saturating_add.ensures)
